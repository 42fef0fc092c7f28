-- What a processor of the built-in families makes of its words and of its link.
use Rattle.std.specs.Prelude.{◌≡◌, ℕ, List, map, Option, Result, Ok, Err}
use Rattle.saw_station.specs.Families.{families, offer_of}
use Rattle.saw_station.specs.declared.offer.Offer.{Offer}
use Rattle.saw_link.specs.declared.passed.Passed.{Passed}
use Rattle.saw_tpside.specs.ProcessorConversation.{starting}
use Rattle.saw_tpside.specs.ServedLinks.{HasServed}
use Rattle.saw_tpside.specs.declared.fault.TpFault.{TpFault}
use Rattle.saw_tpside.specs.declared.fault.TpFault.TheVariants.{Failed, Breach, OutOfMemory}
use Rattle.saw_top.specs.declared.opening.Wish.{Wish}
use Rattle.saw_top.specs.declared.opening.Wish.TheVariants.{Plain, Listen, Live, Connect}

-- what it registers
abbrev pub family_offers : List Offer
family_offers = map offer_of families

abbrev pub served_status : Result ℕ TpFault → ℕ
served_status (Ok number) = 0
served_status (Err Failed) = 6
served_status (Err (Breach frame)) = 6
served_status (Err OutOfMemory) = 7

-- it has served the link, and the status says how that ended
pub record HasRun (status : ℕ) (told later : Option (List Passed)) (before after : ℕ) : Type 0 where
  pub result : Result ℕ TpFault
  pub served : HasServed (starting family_offers 2) result told later before after
  pub is : status ≡ served_status result

-- the words of a processor open a connection, and it is served; all others are refused, and the link is left as it was
abbrev pub HasProcessed : Wish → ℕ → Option (List Passed) → Option (List Passed) → ℕ → ℕ → Type 0
HasProcessed Plain status told later before after = (status ≡ 2) × (later ≡ told) × (after ≡ before)
HasProcessed (Listen port remotes) status told later before after = (status ≡ 2) × (later ≡ told) × (after ≡ before)
HasProcessed (Live port readers) status told later before after = (status ≡ 2) × (later ≡ told) × (after ≡ before)
HasProcessed (Connect port) status told later before after = HasRun status told later before after
