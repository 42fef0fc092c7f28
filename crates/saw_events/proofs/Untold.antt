-- Of which events nothing is told, and when all is.
use Rattle.std.proofs.Common.{◌≡◌, ℕ, Bool, true, false, cond, true≢false, ◌&&◌, ◌||◌, Option, Some, None, List, [], ◌∷◌, ◌++◌, refl, sym, ap, ap₂, ◌∙◌}
use Rattle.std.proofs.lemmas.List.{append-nil}
use Rattle.std.specs.Cmp.Lexicographic.{nat_list_eq_equiv}
use Rattle.std.specs.List.{filter, list_all, list_any}
use Rattle.std.specs.Str.{bytes_eq}
use Rattle.saw_messages.specs.declared.receipt.Event.{Event}
use Rattle.saw_events.specs.Events.{is_wanted, passes}
use Rattle.saw_events.specs.Telling.{is_told, may_tell}
use Rattle.saw_events.specs.declared.filter.Subscription.{Subscription}

no_or : (b rest : Bool) → (b || rest) ≡ false → (b ≡ false) × (rest ≡ false)
no_or true rest none = absurd (true≢false none)
no_or false rest none = (refl, none)

-- an event whose type nobody wants is not wanted
unwanted : (wishes : List Subscription) (event : Event) (event_type : List ℕ) → event.event_type ≡ event_type
    → list_any (λ wish. bytes_eq wish.event_type event_type) wishes ≡ false → is_wanted wishes event ≡ false
unwanted [] event event_type same none = refl
unwanted (wish ∷ wishes) event event_type same none =
    let both = no_or (bytes_eq wish.event_type event_type) (list_any (λ wish. bytes_eq wish.event_type event_type) wishes) none in
    let other = nat_list_eq_equiv.symm event.event_type wish.event_type ∙ ap (bytes_eq wish.event_type) same ∙ both.0 in
    ap₂ (λ a b. a || b) (ap (λ b. b && list_all (λ wanted. passes wanted event) wish.filters) other) (unwanted wishes event event_type same both.1)

untold : (wishes : Option (List Subscription)) (event : Event) → may_tell wishes event.event_type ≡ false → is_told wishes event ≡ false
untold None event none = none
untold (Some wishes) event none = unwanted wishes event event.event_type refl none

-- so nothing is told of it
pub tells_nothing : (told : List Event) (wishes : Option (List Subscription)) (event : Event) → may_tell wishes event.event_type ≡ false
    → told ≡ told ++ filter (is_told wishes) (event ∷ [])
tells_nothing told wishes event none =
    sym (append-nil told) ∙ ap (λ b. told ++ cond b (event ∷ []) []) (sym (untold wishes event none))

-- where no subscriptions are given all is told
pub tells_all : (events : List Event) → filter (is_told None) events ≡ events
tells_all [] = refl
tells_all (event ∷ events) = ap (λ rest. event ∷ rest) (tells_all events)
