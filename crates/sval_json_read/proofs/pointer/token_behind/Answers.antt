use Rattle.std.proofs.Common.{◌+◌, drop, get_or, subst, arith, refl}
use Rattle.std.proofs.lemmas.List.{drop_more, drop_all}
use Rattle.sval_json_read.proofs.Pointers.{StandsBehind, at_first, one_behind, none_behind}
use Rattle.sval_json_read.proofs.pointer.token_behind.Goals as goal

pub loop-next-init : goal.loop-next-init
loop-next-init c = (omega arith, at_first c.args.name.now c.args.bytes.now)

pub loop-next-preserved : goal.loop-next-preserved
loop-next-preserved c =
    let name = c.args.name.now in
    let l = c.loop-next in
    let here = subst (λ rest. StandsBehind name c.args.bytes.now rest l.left.now) (drop_more name l.next 0 c.loop-next-test.true) l.invariant.1 in
    (omega arith, one_behind (get_or name l.next 0) (drop (l.next + 1) name) here c.in-Some.more.now c.in-Some.ensures.found)

pub returns-in-None-clause-other : goal.returns-in-None-clause-other
returns-in-None-clause-other c = λ none.
    let name = c.args.name.now in
    let l = c.loop-next in
    let here = subst (λ rest. StandsBehind name c.args.bytes.now rest l.left.now) (drop_more name l.next 0 c.loop-next-test.true) l.invariant.1 in
    none_behind (get_or name l.next 0) (drop (l.next + 1) name) here (c.in-None.ensures.other refl)

pub returns-clause-found : goal.returns-clause-found
returns-clause-found c =
    let l = c.loop-next in
    let here = subst (λ rest. StandsBehind c.args.name.now c.args.bytes.now rest l.left.now) (drop_all l.next c.args.name.now c.loop-next-test.false) l.invariant.1 in
    here.back l.left.now refl
