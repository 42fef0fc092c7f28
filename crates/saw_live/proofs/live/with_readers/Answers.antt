use Rattle.std.proofs.Common.{◌≡◌, arith, refl, subst, sym, ap, ap₂, ◌∙◌, false, map, ◌++◌, ◌∷◌, []}
use Rattle.std.specs.Prelude.{replicate}
use Rattle.std.specs.List.{AllByRecursion}
use Rattle.std.proofs.lemmas.List.{map-append, replicate-append-replicate}
use Rattle.saw_context.proofs.Each.{all_append}
use Rattle.saw_live.specs.Heads.{knows}
use Rattle.saw_live.specs.Passes.{view_of}
use Rattle.saw_live.proofs.live.with_readers.Goals as goal

pub loop-init : goal.loop-init
loop-init c = record {
  first = refl;
  tied = c.requires.cell;
  root = refl;
  state = c.requires.nothing;
  views = ap (map view_of) c.new-all.ensures.items;
  cell = subst (AllByRecursion _) (sym c.new-all.ensures.items) tt;
  nothing = subst (AllByRecursion _) (sym c.new-all.ensures.items) tt;
}

pub reader_of-requires : goal.reader_of-requires
reader_of-requires c = c.loop.invariant.tied

pub loop-preserved : goal.loop-preserved
loop-preserved c =
    let items = c.in_ok-push.ensures.items in
    let before = c.loop.invariant in
    let seen = ap (λ v. v.seen) before.first ∙ c.requires.seen in
    record {
      first = c.reader_of.ensures.first.0 ∙ before.first;
      tied = c.reader_of.ensures.first.1 ∙ before.tied;
      root = c.reader_of.ensures.same.0 ∙ before.root;
      state = c.reader_of.ensures.same.1 ∙ before.state;
      views = ap (map view_of) items ∙ map-append view_of c.loop.all.items (c.reader_of.result ∷ [])
          ∙ ap₂ (λ some last. some ++ last ∷ []) before.views (c.reader_of.ensures.view ∙ ap (knows false) seen) ∙ replicate-append-replicate c.loop.counter 1 (knows false []);
      cell = subst (AllByRecursion _) (sym items) (all_append _ c.loop.all.items (c.reader_of.result ∷ []) before.cell (c.reader_of.ensures.cell ∙ before.tied, tt));
      nothing = subst (AllByRecursion _) (sym items)
          (all_append _ c.loop.all.items (c.reader_of.result ∷ []) before.nothing
          ((c.reader_of.ensures.nothing.0 ∙ before.root, c.reader_of.ensures.nothing.1), tt));
    }

pub returns-clause-views : goal.returns-clause-views
returns-clause-views c =
    let ended = c.loop.invariant in
    let all : c.loop.counter ≡ c.args.readers = omega (arith, c.loop-test.false, c.loop.auto.counter-end) in
    ap (map view_of) c.in_ok-insert.ensures.items
    ∙ ap₂ (λ first others. first ∷ others) ended.first (ended.views ∙ ap (λ n. replicate n (knows false [])) all)

pub returns-clause-cell : goal.returns-clause-cell
returns-clause-cell c = subst (AllByRecursion _) (sym c.in_ok-insert.ensures.items) (c.loop.invariant.tied, c.loop.invariant.cell)

pub returns-clause-nothing : goal.returns-clause-nothing
returns-clause-nothing c =
    let ended = c.loop.invariant in
    subst (AllByRecursion _) (sym c.in_ok-insert.ensures.items) ((ended.root, ended.state), ended.nothing)
