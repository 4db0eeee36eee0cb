use Rattle.std.proofs.Common.{rules, ◌+◌, arith}
use Rattle.nm_model.specs.Knowledge.{unfilled}
use Rattle.nm_steps.specs.Rules.{knowledge}
use Rattle.nm_pool.proofs.Allowing.{may_claim, may_look, may_raise}
use Rattle.nm_pool.proofs.PrivateSlots.{HasDraft, looked_at, within_pass, claimed_draft, looked_draft, filled_draft, private_of, looked_is, unborn_is, learns_taken, learns_claim, learns_look, learns_give, learns_fill, learns_of, of_both}
use Rattle.nm_pool.proofs.nodes.try_slot.Goals as goal

pub claim-requires-clause-may : goal.claim-requires-clause-may
claim-requires-clause-may c = may_claim _ _ _ c.args.slot (omega arith) (rw c.requires.own.layout c.requires.high)

pub returns-then-not-claim-clause-learned : goal.returns-then-not-claim-clause-learned
returns-then-not-claim-clause-learned c = learns_taken c.args.pass.now c.claim.new.pass c.args.slot (search rules)

pub look_birth-birth-requires-clause-may : goal.look_birth-birth-requires-clause-may
look_birth-birth-requires-clause-may c =
    let slot = c.args.slot in
    let p = c.claim.new.pass in
    let had : HasDraft (knowledge p.view) slot unfilled = claimed_draft c.args.pass.now p slot slot (search rules) in
    may_look _ _ _ slot (omega arith) (within_pass c.args.shared.now c.args.pass.now p slot c.requires.own
    (search rules) c.requires.high) (private_of (knowledge p.view) slot unfilled had)

pub put-requires-clause-private : goal.put-requires-clause-private
put-requires-clause-private c =
    let slot = c.args.slot in
    let had : HasDraft (knowledge c.claim.new.pass.view) slot unfilled = claimed_draft c.args.pass.now
    c.claim.new.pass slot slot (search rules) in
    private_of (knowledge c.look_birth-birth.new.pass.view) slot (looked_at c.look_birth-birth.result)
    (looked_draft c.claim.new.pass c.look_birth-birth.new.pass slot c.look_birth-birth.result had (search rules))

pub returns-then-birth-eq-LAST_NUMBER-clause-learned :
    goal.returns-then-birth-eq-LAST_NUMBER-clause-learned
returns-then-birth-eq-LAST_NUMBER-clause-learned c =
    let slot = c.args.slot in
    let p = c.claim.new.pass in
    let q = c.look_birth-birth.new.pass in
    let had : HasDraft (knowledge p.view) slot unfilled = claimed_draft c.args.pass.now p slot slot (search rules) in
    let new = c.claim.ensures.new (search rules) in
    learns_of slot _ _ new.not_held
    (of_both slot _ (knowledge q.view) _
    (of_both slot _ (knowledge p.view) _ (learns_claim c.args.pass.now p slot slot (search rules))
    (learns_look p q slot c.look_birth-birth.result (private_of (knowledge p.view) slot unfilled had) (search rules)))
    (learns_give q c.put.new.pass slot slot (search rules)))

pub fill_birth-requires-clause-may : goal.fill_birth-requires-clause-may
fill_birth-requires-clause-may c =
    let slot = c.args.slot in
    let b = c.look_birth-birth.result in
    let p = c.claim.new.pass in
    let q = c.look_birth-birth.new.pass in
    let had : HasDraft (knowledge p.view) slot unfilled = claimed_draft c.args.pass.now p slot slot (search rules) in
    let has : HasDraft (knowledge q.view) slot (looked_at b) = looked_draft p q slot b had (search rules) in
    may_raise _ _ _ slot (omega arith) (within_pass c.args.shared.now c.args.pass.now q slot c.requires.own
    (search rules) c.requires.high) (private_of (knowledge q.view) slot (looked_at b) has)
    b (looked_is (knowledge q.view) slot b has) (unborn_is (knowledge q.view) slot b has) (omega arith)

pub returns-clause-made : goal.returns-clause-made
returns-clause-made c =
    let slot = c.args.slot in
    let b = c.look_birth-birth.result in
    let p = c.claim.new.pass in
    let q = c.look_birth-birth.new.pass in
    let had : HasDraft (knowledge p.view) slot unfilled = claimed_draft c.args.pass.now p slot slot (search rules) in
    let has : HasDraft (knowledge q.view) slot (looked_at b) = looked_draft p q slot b had (search rules) in
    filled_draft q c.fill_birth.new.pass slot b (b + 1) has (search rules)

pub returns-clause-learned : goal.returns-clause-learned
returns-clause-learned c =
    let slot = c.args.slot in
    let p = c.claim.new.pass in
    let q = c.look_birth-birth.new.pass in
    let had : HasDraft (knowledge p.view) slot unfilled = claimed_draft c.args.pass.now p slot slot (search rules) in
    let new = c.claim.ensures.new (search rules) in
    learns_of slot _ _ new.not_held
    (of_both slot _ (knowledge q.view) _
    (of_both slot _ (knowledge p.view) _ (learns_claim c.args.pass.now p slot slot (search rules))
    (learns_look p q slot c.look_birth-birth.result (private_of (knowledge p.view) slot unfilled had) (search rules)))
    (learns_fill q c.fill_birth.new.pass slot (c.look_birth-birth.result + 1) (search rules)))

pub returns-clause-new : goal.returns-clause-new
returns-clause-new c = c.claim.ensures.new (search rules)
