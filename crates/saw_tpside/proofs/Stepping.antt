-- A step of a processor on its link, and all of them.
use Rattle.std.proofs.Common.{◌≡◌, ◌≤◌, ◌+◌, ℕ, List, [], ◌∷◌, ◌++◌, Option, Some, None, Result, Ok, Err, inl, inr, refl, sym, ap, subst, ◌∙◌, arith}
use Rattle.std.proofs.lemmas.List.{append-nil, append_assoc}
use Rattle.saw_faults.specs.Counts.{Rose}
use Rattle.saw_link.specs.Tells.{Adds}
use Rattle.saw_link.specs.declared.fault.LinkFault.{LinkFault}
use Rattle.saw_link.specs.declared.fault.LinkFault.TheVariants as links
use Rattle.saw_link.specs.declared.passed.Passed.{Passed}
use Rattle.saw_link.specs.declared.passed.Passed.TheVariants.{Sent, Received}
use Rattle.saw_tpside.specs.ProcessorConversation.{Serves, none, sends, takes, after_sent, due, taken}
use Rattle.saw_tpside.specs.ServedLinks.{EndsBy, EndsHere, ServesOn, HasServed, HasStepped, HasTaken, of_link}
use Rattle.saw_tpside.specs.declared.fault.TpFault.{TpFault}
use Rattle.saw_tpside.specs.declared.fault.TpFault.TheVariants.{Failed, Breach, OutOfMemory}
use Rattle.saw_tpside.specs.declared.serve.Stepped.{Stepped}
use Rattle.saw_tpside.specs.declared.serve.Stepped.TheVariants.{On, Over}
use Rattle.saw_tpside.specs.declared.serving.Serving.{Serving}

pub adds_none : (told : Option (List Passed)) → Adds told [] told
adds_none None = refl
adds_none (Some before) = ap (λ (l : List Passed). Some l) (sym (append-nil before))

pub adds_two : (told between later : Option (List Passed)) (first second : List Passed) → Adds told first between → Adds between second later
    → Adds told (first ++ second) later
adds_two None between later first second one two = let P : Option (List Passed) → Type 0 = λ x. Adds x second later in subst P one two
adds_two (Some before) between later first second one two =
    let P : Option (List Passed) → Type 0 = λ x. Adds x second later in
    subst P one two ∙ ap (λ (l : List Passed). Some l) (append_assoc before first second)

-- nothing passed any more for want of memory
pub starved : (p : Serving) (told : Option (List Passed)) (before after : ℕ) → EndsHere p (Err OutOfMemory) told told before after
starved p told before after = record { last = []; ends = inl refl; adds = adds_none told }

-- a frame of the station came, and memory was wanting to take it
pub starved_late : (p : Serving) (frame : List ℕ) (told later : Option (List Passed)) (before after : ℕ) → due p ≡ None → Adds told (Received frame ∷ []) later
    → EndsHere p (Err OutOfMemory) told later before after
starved_late p frame told later before after none_due adds = record {
  last = Received frame ∷ [];
  ends = inr (frame, none_due, refl);
  adds = adds;
}

-- nothing passed any more by a fault of the link
pub link_ends : (p : Serving) (fault : LinkFault) (e : TpFault) (told later : Option (List Passed)) (before after : ℕ) → e ≡ of_link fault → Adds told [] later
    → (fault ≡ links.Failed → Rose before after) → EndsHere p (Err e) told later before after
link_ends p links.Failed e told later before after is adds rose =
    subst (λ (e : TpFault). EndsHere p (Err e) told later before after) (sym is) (record { last = []; ends = (rose refl, refl); adds = adds })
link_ends p links.OutOfMemory e told later before after is adds rose =
    subst (λ (e : TpFault). EndsHere p (Err e) told later before after) (sym is) (record { last = []; ends = inl refl; adds = adds })

-- the frame that was due was sent
pub goes_on_sent : (p : Serving) (frame : List ℕ) (told later : Option (List Passed)) → due p ≡ Some frame → Adds told (Sent frame ∷ []) later
    → ServesOn p told later (after_sent p)
goes_on_sent p frame told later due_is adds = record {
  passed = Sent frame ∷ [];
  adds = adds;
  serves = λ start before so_far. sends frame so_far due_is;
}

-- a frame of the station was taken
pub goes_on_taken : (p next : Serving) (frame : List ℕ) (told later : Option (List Passed)) → due p ≡ None → taken p frame ≡ Some next
    → Adds told (Received frame ∷ []) later → ServesOn p told later next
goes_on_taken p next frame told later none_due took adds = record {
  passed = Received frame ∷ [];
  adds = adds;
  serves = λ start before so_far. takes frame next so_far none_due took;
}

-- a frame of the station came, and this of it
pub has_taken : (p : Serving) (frame : List ℕ) (result : Result Stepped TpFault) (told later : Option (List Passed)) (before after : ℕ) → due p ≡ None
    → Adds told (Received frame ∷ []) later → HasTaken p frame result → HasStepped p result told later before after
has_taken p frame (Ok (On next)) told later before after none_due adds took = goes_on_taken p next frame told later none_due took adds
has_taken p frame (Ok (Over number)) told later before after none_due adds took = absurd took
has_taken p frame (Err Failed) told later before after none_due adds took = absurd took
has_taken p frame (Err (Breach shown)) told later before after none_due adds took =
    let ends : (l : List ℕ) → shown.items ≡ l → taken p l ≡ None → Adds told (Received l ∷ []) later → EndsHere p (Err (Breach shown)) told later before after =
    λ l is took adds. record { last = Received l ∷ []; ends = (none_due, subst (λ (x : List ℕ). taken p x ≡ None) (sym is) took, ap (λ (x : List ℕ). Received x ∷ []) (sym is)); adds = adds } in
    ends frame took.1 took.0 adds
has_taken p frame (Err OutOfMemory) told later before after none_due adds took = starved_late p frame told later before after none_due adds

-- the conversation so far
pub record SoFar (start : Serving) (told later : Option (List Passed)) (p : Serving) : Type 0 where
  pub passed : List Passed
  pub serves : Serves start passed p
  pub adds : Adds told passed later

pub at_first : (start : Serving) (told : Option (List Passed)) → SoFar start told told start
at_first start told = record { passed = []; serves = none; adds = adds_none told }

pub one_more : (start p next : Serving) (told between later : Option (List Passed)) → SoFar start told between p → ServesOn p between later next
    → SoFar start told later next
one_more start p next told between later so_far goes = record {
  passed = so_far.passed ++ goes.passed;
  serves = goes.serves start so_far.passed so_far.serves;
  adds = adds_two told between later so_far.passed goes.passed so_far.adds goes.adds;
}

rose_before : (first before after : ℕ) → first ≤ before → Rose before after → Rose first after
rose_before first before after below rose = omega (arith, below, rose)

ends_earlier : (result : Result ℕ TpFault) (p : Serving) (last : List Passed) (first before after : ℕ) → first ≤ before → EndsBy result p last before after
    → EndsBy result p last first after
ends_earlier (Ok number) p last first before after below ends = ends
ends_earlier (Err Failed) p last first before after below ends = (rose_before first before after below ends.0, ends.1)
ends_earlier (Err (Breach frame)) p last first before after below ends = ends
ends_earlier (Err OutOfMemory) p last first before after below ends = ends

-- and its end
pub it_ends : (start p : Serving) (result : Result ℕ TpFault) (told between later : Option (List Passed)) (first before after : ℕ) → first ≤ before
    → SoFar start told between p → EndsHere p result between later before after → HasServed start result told later first after
it_ends start p result told between later first before after below so_far here = record {
  passed = so_far.passed;
  last = here.last;
  serving = p;
  serves = so_far.serves;
  ends = ends_earlier result p here.last first before after below here.ends;
  adds = adds_two told between later so_far.passed here.last so_far.adds here.adds;
}
