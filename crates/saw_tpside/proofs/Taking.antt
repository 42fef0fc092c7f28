-- What a frame of the station leaves, by whether a transaction is open.
use Rattle.std.proofs.Common.{◌≡◌, ℕ, true, List, Option, Some, None, refl, sym, ap, ◌∙◌}
use Rattle.saw_tpside.specs.ProcessorConversation.{limit_at, number_of, replied, reply_in, taken, taken_by}
use Rattle.saw_tpside.specs.StationFrames.{reply_of}
use Rattle.saw_tpside.specs.declared.serving.Open.{Open}
use Rattle.saw_tpside.specs.declared.serving.Serving.{Serving}

-- without its open transaction
abbrev pub closed : Serving → Serving
closed p = record p { current = None }

pub taken_closed : (p : Serving) (frame : List ℕ) → p.current ≡ None → taken_by (closed p) None frame ≡ taken p frame
unfolding taken
taken_closed p frame is =
    ap (λ (c : Option Open). taken_by (record p { current = c }) None frame) (sym is) ∙ ap (λ (c : Option Open). taken_by p c frame) (sym is)

pub taken_open : (p : Serving) (held : Open) (frame : List ℕ) → p.current ≡ Some held
    → replied (closed p) held (reply_in (closed p) held frame) ≡ taken p frame
unfolding taken reply_in
taken_open p held frame is = ap (λ (c : Option Open). taken_by p c frame) (sym is)

pub taken_waiting : (p : Serving) (current : Open) (frame : List ℕ) → p.current ≡ Some current → p.waits ≡ true
    → taken p frame ≡ replied p current (reply_of (limit_at p) (number_of current) current.action frame)
unfolding taken reply_in
taken_waiting p current frame current_is waits_is = rw (current_is, waits_is) refl
