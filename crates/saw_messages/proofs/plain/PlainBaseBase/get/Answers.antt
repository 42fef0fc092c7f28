use Rattle.std.proofs.Common.{sym, ◌∙◌, ap, Some}
use Rattle.saw_address.proofs.Finite.{get-map_of}
use Rattle.saw_messages.proofs.plain.PlainBaseBase.get.Goals as goal

pub returns-in-None : goal.returns-in-None
returns-in-None c = c.in-None.ensures.value ∙ sym (get-map_of c.args.self.now.map.entries c.args.at.now)

pub returns-in-Some : goal.returns-in-Some
returns-in-Some c = ap Some c.as_slice.ensures ∙ c.in-Some.ensures.value ∙ sym (get-map_of c.args.self.now.map.entries c.args.at.now)
