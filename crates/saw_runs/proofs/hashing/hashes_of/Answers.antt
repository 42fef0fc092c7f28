use Rattle.std.proofs.Common.{arith, sym, ap, ◌∙◌, ◌+◌, map, Vec, Global}
use Rattle.saw_node.specs.declared.hash.NodeHash.{NodeHash}
use Rattle.saw_runs.specs.Lowers.{lower_hash}
use Rattle.saw_runs.proofs.MadeRuns.{hashes_more, made_none, made_one, top_is, top_within}
use Rattle.saw_runs.proofs.hashing.hashes_of.Goals.{in-Held+in_ok-push-in-Held, in-Made+in_ok-push-in-Made}
use Rattle.saw_runs.proofs.hashing.hashes_of.Goals as goal

pub index-requires : goal.index-requires
index-requires g c =
    omega (
      arith,
      c.in_ok-tops.tops.ok,
      top_within (λ run. run.now) g.H.NodeHasher.hash_of c.args.kids.now c.as_slice.result.now c.in_ok-tops.tops.items
          (ap (map (λ run. run.now)) c.as_slice.ensures.value ∙ c.in_ok-runs.ensures) c.in_ok-tops.ensures
          c.loop-kid.kid-index c.kid-item.result c.in-Made.field-0 c.kid-item.is c.loop-kid-test.true c.in-Made.is c.loop-kid.at c.loop-kid.invariant.0,
    )

pub overflow_add-at : goal.overflow_add-at
overflow_add-at g c =
    omega (
      arith,
      c.in_ok-tops.tops.small,
      top_within (λ run. run.now) g.H.NodeHasher.hash_of c.args.kids.now c.as_slice.result.now c.in_ok-tops.tops.items (ap (map (λ run. run.now)) c.as_slice.ensures.value ∙ c.in_ok-runs.ensures) c.in_ok-tops.ensures
          c.loop-kid.kid-index c.kid-item.result c.in-Made.field-0 c.kid-item.is c.loop-kid-test.true c.in-Made.is c.loop-kid.at c.loop-kid.invariant.0,
    )

pub loop-kid-preserved : goal.loop-kid-preserved
loop-kid-preserved g c =
    elim c.match-kid.branch [
      | in-Held+in_ok-push-in-Held w ↦ (
        w.at-is ∙ c.loop-kid.invariant.0 ∙ made_none c.args.kids.now c.loop-kid.kid-index c.kid-item.result w.in-Held.hash c.kid-item.is c.loop-kid-test.true w.in-Held.is,
        ap (λ (hashes : Vec NodeHash Global). hashes.items) w.hashes-is ∙ w.in_ok-push-in-Held.ensures.items
            ∙ hashes_more g.H.NodeHasher.hash_of c.args.kids.now c.loop-kid.kid-index c.kid-item.result c.loop-kid.hashes.items w.in-Held.hash
            c.kid-item.is c.loop-kid-test.true c.loop-kid.invariant.1 (sym (ap (lower_hash g.H.NodeHasher.hash_of) w.in-Held.is)),
      )
      | in-Made+in_ok-push-in-Made w ↦ (
        w.at-is ∙ ap (λ n. n + 1) c.loop-kid.invariant.0
            ∙ made_one c.args.kids.now c.loop-kid.kid-index c.kid-item.result w.in-Made.field-0 c.kid-item.is c.loop-kid-test.true w.in-Made.is,
        ap (λ (hashes : Vec NodeHash Global). hashes.items) w.hashes-is ∙ w.in_ok-push-in-Made.ensures.items
            ∙ hashes_more g.H.NodeHasher.hash_of c.args.kids.now c.loop-kid.kid-index c.kid-item.result c.loop-kid.hashes.items w.index.result.now
            c.kid-item.is c.loop-kid-test.true c.loop-kid.invariant.1
            (w.index.ensures ∙ top_is (λ run. run.now) g.H.NodeHasher.hash_of c.args.kids.now c.as_slice.result.now c.in_ok-tops.tops.items (ap (map (λ run. run.now)) c.as_slice.ensures.value ∙ c.in_ok-runs.ensures)
            c.in_ok-tops.ensures c.loop-kid.kid-index c.kid-item.result w.in-Made.field-0 c.kid-item.is c.loop-kid-test.true w.in-Made.is c.loop-kid.at _ c.loop-kid.invariant.0),
      )
    ]
