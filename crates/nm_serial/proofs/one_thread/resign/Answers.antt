use Rattle.std.proofs.Common.{◌≡◌, ◌∙◌, slice_set, Some}
use Rattle.nm_serial.specs.Crews.{worker_at}
use Rattle.nm_serial.proofs.CrewLemmas.{placed, emptied, stands_at, has_asked_if, resigning_keeps_whole}
use Rattle.std.proofs.lemmas.List.{length-set}
use Rattle.std.proofs.Common.{◌<◌, length, arith}
use Rattle.nm_serial.proofs.one_thread.resign.Goals as goal

pub returns-clause-own : goal.returns-clause-own
returns-clause-own c =
    let b = c.args.tree.now in
    let first = slice_set c.args.crew.now.items c.args.heir c.take.new.self in
    let second = slice_set first c.args.leaver c.take-2.new.self in
    let third = slice_set second c.args.heir (Some c.leave-taken.result.0) in
    placed b third c.args.leaver c.leave-taken.result.1 c.leave-taken.ensures.leaver
    (placed b second c.args.heir (Some c.leave-taken.result.0) c.leave-taken.ensures.heir
    (emptied b first c.args.leaver c.take-2.new.self c.take-2.ensures.after
    (emptied b c.args.crew.now.items c.args.heir c.take.new.self c.take.ensures.after c.requires.own)))

pub returns-clause-whole : goal.returns-clause-whole
returns-clause-whole c =
    let crew = c.args.crew.now.items in
    let first = slice_set crew c.args.heir c.take.new.self in
    let taken : c.index_mut.result.now ≡ Some c.in-Some.taking = cc in
    let left : c.index_mut-2.result.now ≡ Some c.in-Some-take.leaving = cc in
    let long = length-set crew c.args.heir c.take.new.self in
    let below : c.args.leaver < length first = omega (arith, long, c.requires.leaver) in
    let heir_is : worker_at crew c.args.heir ≡ Some c.in-Some.taking = stands_at crew c.args.heir
    c.index_mut.result.now c.requires.heir c.index_mut.ensures.value ∙ taken in
    let leaver_was : worker_at first c.args.leaver ≡ Some c.in-Some-take.leaving = stands_at first c.args.leaver
    c.index_mut-2.result.now below c.index_mut-2.ensures.value ∙ left in
    resigning_keeps_whole crew c.args.leaver c.args.heir c.in-Some.taking c.in-Some-take.leaving
    c.leave-taken.result.0 c.leave-taken.result.1 c.take.new.self c.take-2.new.self c.if-leaver-heir.false heir_is
    leaver_was c.requires.heir c.requires.leaver c.leave-taken.ensures.whole

pub returns-clause-did : goal.returns-clause-did
returns-clause-did c =
    let crew = c.args.crew.now.items in
    let first = slice_set crew c.args.heir c.take.new.self in
    let taken : c.index_mut.result.now ≡ Some c.in-Some.taking = cc in
    let left : c.index_mut-2.result.now ≡ Some c.in-Some-take.leaving = cc in
    let long = length-set crew c.args.heir c.take.new.self in
    let below : c.args.leaver < length first = omega (arith, long, c.requires.leaver) in
    let heir_is : worker_at crew c.args.heir ≡ Some c.in-Some.taking = stands_at crew c.args.heir
    c.index_mut.result.now c.requires.heir c.index_mut.ensures.value ∙ taken in
    let leaver_was : worker_at first c.args.leaver ≡ Some c.in-Some-take.leaving = stands_at first c.args.leaver
    c.index_mut-2.result.now below c.index_mut-2.ensures.value ∙ left in
    has_asked_if crew c.args.leaver c.args.heir c.in-Some.taking c.in-Some-take.leaving c.leave-taken.result.0
    c.leave-taken.result.1 c.take.new.self c.take-2.new.self c.if-leaver-heir.false heir_is leaver_was
    c.leave-taken.result.2 c.leave-taken.ensures.did
