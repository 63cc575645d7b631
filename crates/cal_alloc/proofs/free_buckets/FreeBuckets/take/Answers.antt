use Rattle.std.proofs.Common.{◌≡◌, Some, get_or, ap, subst, sym, ◌∙◌, ◌+◌, arith}
use Rattle.std.proofs.lemmas.List.{get_or_default}
use Rattle.cal_alloc.specs.FreeChain.{IsChain, marks_of}
use Rattle.cal_alloc.proofs.FreeChains.{opened, linked, seen-fewer, first_use-IsChain, first_use-marks, first_use-free, link-has_word, link-free, link-IsChain, link-marks}
use Rattle.cal_alloc.proofs.free_buckets.FreeBuckets.take.Goals as goal

pub overflow_add-self : goal.overflow_add-self
overflow_add-self c =
    let o = opened c.self.inside c.in-Some.next c.args.self.now c.self.invariant c.self.view_is c.in-Some.is in
    omega (arith, seen-fewer c.self.inside c.args.self.now o.seen c.requires.free, c.self.ranges)

pub push_reserved-requires : goal.push_reserved-requires
push_reserved-requires c =
    let o = opened c.self.inside c.in-Some.next c.args.self.now c.self.invariant c.self.view_is c.in-Some.is in
    let fewer = seen-fewer c.self.inside c.args.self.now o.seen c.requires.free in
    let room = o.is_chain.room in
    omega arith

pub invariant_of-self : goal.invariant_of-self
invariant_of-self c =
    let o = opened c.self.inside c.in-Some.next c.args.self.now c.self.invariant c.self.view_is c.in-Some.is in
    let fewer = seen-fewer c.self.inside c.args.self.now o.seen c.requires.free in
    first_use-IsChain c.self.inside c.in-Some.next c.args.self.now o c.push_reserved.new.self
    c.self.inside.number_of_used
    (omega (arith, c.in-Some.next.ok.0)) fewer c.push_reserved.ensures.items c.push_reserved.ensures.capacity

pub returns-then-used-len-clause-within : goal.returns-then-used-len-clause-within
returns-then-used-len-clause-within c =
    let o = opened c.self.inside c.in-Some.next c.args.self.now c.self.invariant c.self.view_is c.in-Some.is in
    omega (arith, seen-fewer c.self.inside c.args.self.now o.seen c.requires.free, o.seen.length)

pub returns-then-used-len-clause-was_free : goal.returns-then-used-len-clause-was_free
returns-then-used-len-clause-was_free c =
    let o = opened c.self.inside c.in-Some.next c.args.self.now c.self.invariant c.self.view_is c.in-Some.is in
    first_use-free c.self.inside c.in-Some.next c.args.self.now o (omega (arith, c.in-Some.next.ok.0))

pub returns-then-used-len-clause-marked : goal.returns-then-used-len-clause-marked
returns-then-used-len-clause-marked c =
    let o = opened c.self.inside c.in-Some.next c.args.self.now c.self.invariant c.self.view_is c.in-Some.is in
    let fewer = seen-fewer c.self.inside c.args.self.now o.seen c.requires.free in
    first_use-marks c.self.inside c.in-Some.next c.args.self.now o c.push_reserved.new.self c.self.inside.number_of_used
    (omega (arith, c.in-Some.next.ok.0)) fewer c.push_reserved.ensures.items

pub index-requires : goal.index-requires
index-requires c =
    let o = opened c.self.inside c.in-Some.next c.args.self.now c.self.invariant c.self.view_is c.in-Some.is in
    let links = linked c.self.inside c.in-Some.next c.args.self.now o
    (λ same. c.if-used-len.false (omega (arith, same, c.in-Some.next.ok.0))) in
    omega (arith, link-has_word c.self.inside c.in-Some.next c.args.self.now o links, c.in-Some.next.ok.0)

pub invariant_of-self-2 : goal.invariant_of-self-2
invariant_of-self-2 c =
    let o = opened c.self.inside c.in-Some.next c.args.self.now c.self.invariant c.self.view_is c.in-Some.is in
    let links = linked c.self.inside c.in-Some.next c.args.self.now o
    (λ same. c.if-used-len.false (omega (arith, same, c.in-Some.next.ok.0))) in
    let word : c.index.result.now ≡ get_or c.in-Some.next.items c.self.inside.first_free 0 =
    c.index.ensures ∙ get_or_default c.in-Some.next.items c.self.inside.first_free _ 0
    (link-has_word c.self.inside c.in-Some.next c.args.self.now o links) in
    subst (λ n. IsChain (record c.self.inside
    { next = Some c.in-Some.next; first_free = n; number_of_used = c.self.inside.number_of_used + 1 })
    c.in-Some.next)
    (sym word) (link-IsChain c.self.inside c.in-Some.next c.args.self.now o links)

pub returns-clause-within : goal.returns-clause-within
returns-clause-within c =
    let o = opened c.self.inside c.in-Some.next c.args.self.now c.self.invariant c.self.view_is c.in-Some.is in
    let links = linked c.self.inside c.in-Some.next c.args.self.now o
    (λ same. c.if-used-len.false (omega (arith, same, c.in-Some.next.ok.0))) in
    let within = o.is_chain.within in
    omega (arith, link-has_word c.self.inside c.in-Some.next c.args.self.now o links, o.seen.length)

pub returns-clause-was_free : goal.returns-clause-was_free
returns-clause-was_free c =
    let o = opened c.self.inside c.in-Some.next c.args.self.now c.self.invariant c.self.view_is c.in-Some.is in
    let links = linked c.self.inside c.in-Some.next c.args.self.now o
    (λ same. c.if-used-len.false (omega (arith, same, c.in-Some.next.ok.0))) in
    link-free c.self.inside c.in-Some.next c.args.self.now o links

pub returns-clause-marked : goal.returns-clause-marked
returns-clause-marked c =
    let o = opened c.self.inside c.in-Some.next c.args.self.now c.self.invariant c.self.view_is c.in-Some.is in
    let links = linked c.self.inside c.in-Some.next c.args.self.now o
    (λ same. c.if-used-len.false (omega (arith, same, c.in-Some.next.ok.0))) in
    let word : c.index.result.now ≡ get_or c.in-Some.next.items c.self.inside.first_free 0 =
    c.index.ensures ∙ get_or_default c.in-Some.next.items c.self.inside.first_free _ 0
    (link-has_word c.self.inside c.in-Some.next c.args.self.now o links) in
    ap (λ n. marks_of (record c.self.inside
    { next = Some c.in-Some.next; first_free = n; number_of_used = c.self.inside.number_of_used + 1 })) word
    ∙ link-marks c.self.inside c.in-Some.next c.args.self.now o links
