use Rattle.std.proofs.Common.{map, sym, subst}
use Rattle.std.specs.Prelude.{◌<◌, ◌^◌, IfSome, length}
use Rattle.std.specs.List.{AllByRecursion}
use Rattle.std.specs.List.Sorted.{IsStrictlySortedBy}
use Rattle.std.specs.Ordering.{nat_cmp}
use Rattle.std.proofs.lemmas.Simd.{map-map}
use Rattle.saw_node.specs.Decoding.{IsChild}
use Rattle.saw_node.specs.Nodes.{pair_of}
use Rattle.saw_proofs.proofs.proving.show_node.Goals as goal

pub returns : goal.returns
returns c =
    let same = c.children.ensures.same in
    record {
      rising = subst (IsStrictlySortedBy nat_cmp) (sym (map-map (λ b. b.0) pair_of c.args.node.now.children))
          (subst (λ cs. IsStrictlySortedBy nat_cmp (map (λ child. child.byte) cs)) same c.children.ensures.rising);
      small = subst (λ cs. AllByRecursion IsChild (map pair_of cs)) same c.show_children.ensures;
      fits = subst (λ o. IfSome o (λ value. length value < 2 ^ 64)) c.value.ensures c.show_value.ensures;
    }
