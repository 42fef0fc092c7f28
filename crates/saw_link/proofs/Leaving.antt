-- What a trouble leaves of a station.
use Rattle.std.proofs.Common.{◌≡◌, ℕ, Bool, List, Option, refl, sym, ◌∙◌, subst}
use Rattle.saw_faults.specs.Counts.{Rose}
use Rattle.saw_station.specs.declared.fault.StationFault.{StationFault}
use Rattle.saw_link.specs.Remotes.{AgreesWithLink, Leaves, Remote, Why, breach_of, fault_of, health_of}
use Rattle.saw_link.specs.declared.exchange.Trouble.{Trouble}
use Rattle.saw_link.specs.declared.exchange.Trouble.TheVariants as troubles
use Rattle.saw_link.specs.declared.passed.Passed.{Passed}
use Rattle.saw_link.specs.declared.remote.Health.{Health}
use Rattle.saw_link.specs.declared.remote.Health.TheVariants.{Sound}
use Rattle.saw_link.specs.declared.standing.Standing.{Standing}

-- a trouble that is not early leaves a station that is not sound
lost : (trouble : Trouble) → health_of (fault_of trouble) ≡ Sound → ⊥
lost troubles.Link is = cc
lost troubles.TooLong is = cc
lost troubles.Ended is = cc
lost troubles.Broken is = cc
lost (troubles.Breach frame) is = cc
lost troubles.Exhausted is = cc
lost troubles.Early is = cc
lost troubles.Closed is = cc
lost troubles.OutOfMemory is = cc

kept_lost : (told : Option (List Passed)) (standing : Standing) (begun : Bool) (health : Health) → (health ≡ Sound → ⊥) → AgreesWithLink told standing begun health
kept_lost told standing begun health not = record {
  spelled = λ sound. absurd (not sound);
  still = λ sound. absurd (not sound);
  ready = λ yes_begun sound. absurd (not sound);
  unbegun = λ not_begun sound. absurd (not sound);
}

module _ {L : Type 0} (before after : Remote L) (fault : StationFault) where
  leaves_by : (trouble : Trouble) → (trouble ≡ troubles.Early → after ≡ before)
      → ((trouble ≡ troubles.Early → ⊥) → (after.health ≡ health_of (fault_of trouble)) × (after.breach ≡ breach_of trouble)) → Leaves trouble before after
  leaves_by troubles.Link early left = left (λ is. absurd cc)
  leaves_by troubles.TooLong early left = left (λ is. absurd cc)
  leaves_by troubles.Ended early left = left (λ is. absurd cc)
  leaves_by troubles.Broken early left = left (λ is. absurd cc)
  leaves_by (troubles.Breach frame) early left = left (λ is. absurd cc)
  leaves_by troubles.Exhausted early left = left (λ is. absurd cc)
  leaves_by troubles.Early early left = early refl
  leaves_by troubles.Closed early left = left (λ is. absurd cc)
  leaves_by troubles.OutOfMemory early left = left (λ is. absurd cc)

  -- why a call failed
  pub why_settled : (told : L → Option (List Passed)) (counted : L → ℕ) (stops : Trouble → Option (List Passed) → Standing → Option (List Passed) → Type 0)
      (trouble : Trouble) → fault ≡ fault_of trouble → stops trouble (told before.link) before.standing (told after.link)
      → (trouble ≡ troubles.Link → Rose (counted before.link) (counted after.link)) → (trouble ≡ troubles.Early → after ≡ before)
      → ((trouble ≡ troubles.Early → ⊥) → (after.health ≡ health_of fault) × (after.breach ≡ breach_of trouble))
      → Why told counted stops before after fault
  why_settled told counted stops trouble is stopped link early left =
      let P : StationFault → Type 0 = λ f. (trouble ≡ troubles.Early → ⊥) → (after.health ≡ health_of f) × (after.breach ≡ breach_of trouble) in
      record { trouble = trouble; is = is; stopped = stopped; link = link; leaves = leaves_by trouble early (subst P is left) }

-- the parts are as before
abbrev IsSame : {L : Type 0} → Remote L → Remote L → Type 0
IsSame before after = before ≡ after

pub remote_same : {L : Type 0} (link other : L) (standing next : Standing) (begun : Bool) (health later : Health) (faults count : ℕ)
    (breach shown : Option (List ℕ)) → other ≡ link → next ≡ standing → later ≡ health → count ≡ faults → shown ≡ breach
    → IsSame {L = L} (record { link = other; standing = next; begun = begun; health = later; faults = count; breach = shown })
    (record { link = link; standing = standing; begun = begun; health = health; faults = faults; breach = breach })
remote_same link other standing next begun health later faults count breach shown a b c d e = rw (a, b, c, d, e) refl

-- what a station keeps after a call that failed
pub kept_settled : (trouble : Trouble) (told : Option (List Passed)) (standing : Standing) (begun : Bool) (health : Health) (later : Option (List Passed))
    (next : Standing) (then_health : Health)
    → AgreesWithLink told standing begun health → (trouble ≡ troubles.Early → (later ≡ told) × (next ≡ standing) × (then_health ≡ health))
    → ((trouble ≡ troubles.Early → ⊥) → then_health ≡ health_of (fault_of trouble)) → AgreesWithLink later next begun then_health
kept_settled troubles.Link told standing begun health later next then_health kept early left = kept_lost later next begun then_health (λ is. lost troubles.Link (sym (left (λ e. absurd cc)) ∙ is))
kept_settled troubles.TooLong told standing begun health later next then_health kept early left = kept_lost later next begun then_health (λ is. lost troubles.TooLong (sym (left (λ e. absurd cc)) ∙ is))
kept_settled troubles.Ended told standing begun health later next then_health kept early left = kept_lost later next begun then_health (λ is. lost troubles.Ended (sym (left (λ e. absurd cc)) ∙ is))
kept_settled troubles.Broken told standing begun health later next then_health kept early left = kept_lost later next begun then_health (λ is. lost troubles.Broken (sym (left (λ e. absurd cc)) ∙ is))
kept_settled (troubles.Breach frame) told standing begun health later next then_health kept early left = kept_lost later next begun then_health (λ is. lost (troubles.Breach frame) (sym (left (λ e. absurd cc)) ∙ is))
kept_settled troubles.Exhausted told standing begun health later next then_health kept early left = kept_lost later next begun then_health (λ is. lost troubles.Exhausted (sym (left (λ e. absurd cc)) ∙ is))
kept_settled troubles.Early told standing begun health later next then_health kept early left =
    let e = early refl in
    let P : Option (List Passed) → Type 0 = λ t. AgreesWithLink t next begun then_health in
    let Q : Standing → Type 0 = λ s. AgreesWithLink told s begun then_health in
    let R : Health → Type 0 = λ h. AgreesWithLink told standing begun h in
    subst P (sym e.0) (subst Q (sym e.1) (subst R (sym e.2) kept))
kept_settled troubles.Closed told standing begun health later next then_health kept early left = kept_lost later next begun then_health (λ is. lost troubles.Closed (sym (left (λ e. absurd cc)) ∙ is))
kept_settled troubles.OutOfMemory told standing begun health later next then_health kept early left = kept_lost later next begun then_health (λ is. lost troubles.OutOfMemory (sym (left (λ e. absurd cc)) ∙ is))
