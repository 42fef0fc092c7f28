use Rattle.std.proofs.Common.{◌∙◌, sym, List}
use Rattle.std.proofs.lemmas.List.Folds.{list_all-map}
use Rattle.saw_station.specs.Serving.{is_offered}
use Rattle.saw_station.specs.declared.offer.Offer.{Offer}
use Rattle.saw_station.proofs.common.is_common.Goals as goal

pub returns : goal.returns
returns g c =
    c.has_each.ensures
    ∙ sym (list_all-map (λ (offers : List Offer). is_offered offers c.args.offer.now.family c.args.offer.now.version) g.R.Station.offered
    c.args.remotes.now)
