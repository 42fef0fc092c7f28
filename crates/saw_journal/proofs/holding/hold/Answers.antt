use Rattle.std.proofs.Common.{◌++◌, ◌∷◌, [], sym, ap, subst, ◌∙◌}
use Rattle.std.proofs.lemmas.Result.{on_ok_weaker}
use Rattle.std.specs.Arc.{arc_value}
use Rattle.std.specs.Map.{lookup}
use Rattle.std.specs.Str.{bytes_eq}
use Rattle.saw_journal.specs.KnownBranches.{Told, has_key, holder_in}
use Rattle.saw_journal.proofs.FirstHolders.{Entries, adds_one, by_first, by_others, first, none_of, put_new}
use Rattle.saw_journal.proofs.holding.hold.Goals as goal

pub returns-in_default-clause-told : goal.returns-in_default-clause-told
returns-in_default-clause-told c =
    on_ok_weaker c.insert.result
    (λ more chain ids here told. by_others (holder_in c.args.holders.now) chain ids c.args.others.now c.insert.new.self c.args.id.now more told)
    c.insert.ensures.more

pub returns-then-contains_key-clause-told : goal.returns-then-contains_key-clause-told
returns-then-contains_key-clause-told c =
    let set = c.insert-then-contains_key.new.self in
    on_ok_weaker c.insert-then-contains_key.result
    (λ more chain ids here told. by_others (holder_in c.args.holders.now) chain ids c.args.others.now set c.args.id.now more told)
    c.insert-then-contains_key.ensures.more

pub returns-clause-told : goal.returns-clause-told
returns-clause-told c = λ chain ids here told.
    let es = c.args.holders.now.entries in
    let key = c.in-Some.key in
    let value = c.in_ok-try_clone.field-0 in
    let id = c.args.id.now in
    let key_is = sym c.in-Some.ensures in
    let none = none_of (lookup (bytes_eq key) es) c.if-contains_key.ensures in
    let put = c.in_ok-insert.ensures.entries ∙ put_new es key value none in
    subst (λ (es : Entries). Told (first es) chain c.args.others.now (ids ++ id ∷ [])) (sym put)
    (by_first es key value id (arc_value c.args.block.now) key_is c.in_ok-try_clone.ensures (ap (λ at. lookup (λ key. has_key at key) es) key_is ∙ none)
    chain ids c.args.others.now here told)

pub returns-clause-adds : goal.returns-clause-adds
returns-clause-adds c =
    let es = c.args.holders.now.entries in
    let key = c.in-Some.key in
    let value = c.in_ok-try_clone.field-0 in
    let none = none_of (lookup (bytes_eq key) es) c.if-contains_key.ensures in
    let put = c.in_ok-insert.ensures.entries ∙ put_new es key value none in
    adds_one (arc_value c.args.block.now) c.args.holders.now c.insert-2.new.self key value put c.in_ok-try_clone.ensures
