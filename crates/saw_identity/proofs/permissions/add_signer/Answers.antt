use Rattle.std.proofs.Common.{refl, subst, ap}
use Rattle.std.proofs.lemmas.Result.{on_ok_weaker}
use Rattle.std.specs.Prelude.{IsSome, Option}
use Rattle.saw_identity.specs.declared.permissions.Known.{Known}
use Rattle.saw_messages.specs.TxShapes.{TxShape}
use Rattle.saw_identity.proofs.Rulings.{known_found, known_kept}
use Rattle.saw_identity.proofs.permissions.add_signer.Goals as goal

pub returns-in-Some : goal.returns-in-Some
returns-in-Some c =
    let family = ap (λ (tx : TxShape). tx.header.family_name) c.tx.view_is in
    let updates = (c.get_mut.follows.holds c.add.new.self).3 (subst (λ (found : Option Known). IsSome found) c.in-Some.ensures.value refl) in
    record {
      ok = on_ok_weaker c.add.result (λ told m t are none.
          known_kept m c.args.families.now.entries (c.get_mut.follows.lender c.add.new.self).entries c.tx.inside.header.family_name
          c.args.tx.now.header.family_name c.add.new.self family are
          (told m t (known_found m c.args.families.now.entries c.tx.inside.header.family_name c.args.tx.now.header.family_name c.in-Some.known.now family are
          c.in-Some.ensures.value) none) updates.0) c.add.ensures.ok;
    }
