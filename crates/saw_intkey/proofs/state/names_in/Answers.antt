use Rattle.std.proofs.Common.{◌∙◌, ap}
use Rattle.saw_intkey.specs.States.{has_name}
use Rattle.saw_intkey.proofs.Entries.{none_read, no_name, no_value, again, one_more, all_read}
use Rattle.saw_intkey.proofs.state.names_in.Goals as goal

pub loop-pair-init : goal.loop-pair-init
loop-pair-init c = none_read c.new-names.result.items c.args.pairs.now c.new-names.ensures.items

pub returns-in_default : goal.returns-in_default
returns-in_default c =
    let l = c.loop-pair in
    no_name l.names.items c.args.pairs.now l.pair-index c.pair-item.result _ c.loop-pair-test.true c.pair-item.is c.in_default.ensures l.invariant.goes_on

pub returns-in_default-as_value : goal.returns-in_default-as_value
returns-in_default-as_value c =
    let l = c.loop-pair in
    no_value l.names.items c.args.pairs.now l.pair-index c.pair-item.result c.in-Some.name.now _ c.loop-pair-test.true c.pair-item.is
    c.in-Some.ensures c.in_default-as_value.ensures l.invariant.goes_on

pub returns-then-has_name : goal.returns-then-has_name
returns-then-has_name c =
    let l = c.loop-pair in
    again l.names.items c.args.pairs.now l.pair-index c.pair-item.result c.in-Some.name.now c.in-Some-as_value.value _ c.loop-pair-test.true
    c.pair-item.is c.in-Some.ensures c.in-Some-as_value.ensures
    (c.if-has_name.ensures ∙ ap (has_name c.in-Some.name.now) c.deref.ensures.value) l.invariant.goes_on

pub loop-pair-preserved : goal.loop-pair-preserved
loop-pair-preserved c =
    let l = c.loop-pair in
    one_more l.names.items c.push.new.self.items c.args.pairs.now l.pair-index c.pair-item.result c.in-Some.name.now c.in_ok-from_str.field-0
    c.in-Some-as_value.value c.loop-pair-test.true c.pair-item.is c.in-Some.ensures c.in-Some-as_value.ensures
    (c.if-has_name.ensures ∙ ap (has_name c.in-Some.name.now) c.deref.ensures.value) c.in_ok-from_str.ensures c.in_ok-push.ensures.items l.invariant

pub returns : goal.returns
returns c =
    let l = c.loop-pair in
    all_read l.names.items l.pair-index c.args.pairs.now c.loop-pair-test.false l.invariant
