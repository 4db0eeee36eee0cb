use Rattle.std.proofs.Common.{◌≡◌, ◌≤◌, ℕ, [], ◌∷◌, ◌++◌, ap, subst, arith}
use Rattle.nm_edge.specs.Layouts.{Layout}
use Rattle.nm_model.specs.declared.event.Event.TheVariants.{Look}
use Rattle.nm_model.specs.declared.event.Field.TheVariants.{Birth}
use Rattle.nm_model.specs.declared.reply.Reply.TheVariants.{BirthIs}
use Rattle.nm_order.specs.Facts.Fact.{IsBorn}
use Rattle.nm_steps.specs.Rules.{value_of}
use Rattle.nm_steps.specs.Steps.{PassView}
use Rattle.nm_walks.specs.Telling.{Tells}
use Rattle.nm_walks.specs.Marking.{FlagWon}
use Rattle.nm_walks.proofs.GoingOn.{goes_then}
use Rattle.nm_calls.proofs.Removals.{flagged_by_value, has_flagged, to_be_flagged}
use Rattle.nm_calls.proofs.TakenValues.{read_flagged}
use Rattle.nm_calls.proofs.deleting.flag_at.Goals as goal

pub flag-requires-clause-found : goal.flag-requires-clause-found
flag-requires-clause-found c =
    let q = c.look_birth-birth.new.pass in
    rw c.slot-leaf.ensures
    (to_be_flagged c.args.pass.now q c.args.key c.args.end.now c.look_birth-birth.result c.requires.may
    c.look_birth-birth.ensures.on c.look_birth-birth.ensures.only
    (subst (λ (n : ℕ). Tells q (IsBorn n c.look_birth-birth.result)) c.slot-leaf.ensures
    c.look_birth-birth.ensures.born))

pub value_of_slot-requires-clause-slot : goal.value_of_slot-requires-clause-slot
value_of_slot-requires-clause-slot c =
    let may = c.requires.may in
    let high = may.high in
    rw c.slot-leaf.ensures (
      omega (arith, high),
      subst
          (λ (L : Layout). c.args.end.now.seek_record.edge.slot ≤ L.nodes) c.requires.pinned.own.layout may.within,
    )

pub returns-in-Ok-clause-won : goal.returns-in-Ok-clause-won
returns-in-Ok-clause-won c =
    let o = c.args.pass.now in
    let p = c.look_birth-birth.new.pass in
    let q = c.flag.new.pass in
    let r = c.args.end.now in
    let b = c.look_birth-birth.result in
    let born : Tells p (IsBorn r.seek_record.edge.slot b) = subst (λ (n : ℕ). Tells p (IsBorn n b))
    c.slot-leaf.ensures c.look_birth-birth.ensures.born in
    let won : FlagWon p q r.seek_record.parent r.seek_record.side
    (record { slot = r.seek_record.edge.slot; birth = b }) =
    subst (λ (n : ℕ). FlagWon p q r.seek_record.parent r.seek_record.side (record { slot = n; birth = b }))
    c.slot-leaf.ensures (c.in-Ok.ensures.won b c.look_birth-birth.ensures.born) in
    flagged_by_value o q c.value_of_slot.new.pass r b c.value_of_slot.ensures.same c.value_of_slot.ensures.on
    (has_flagged o p q r b (subst (λ (n : ℕ). p.view.log ≡ o.view.log ++ (Look n Birth, BirthIs b) ∷ [])
    c.slot-leaf.ensures (ap (λ (x : PassView). x.view.log) c.look_birth-birth.ensures.step)) born c.flag.ensures.on
    won)

pub returns-in-Ok-clause-on : goal.returns-in-Ok-clause-on
returns-in-Ok-clause-on c =
    goes_then c.args.pass.now c.look_birth-birth.new.pass c.value_of_slot.new.pass c.look_birth-birth.ensures.on
    (goes_then c.look_birth-birth.new.pass c.flag.new.pass c.value_of_slot.new.pass c.flag.ensures.on
    c.value_of_slot.ensures.on)

pub returns-in-Ok-clause-read : goal.returns-in-Ok-clause-read
returns-in-Ok-clause-read c = λ values.
    let o = c.args.pass.now in
    let m = c.value_of_slot.new.pass in
    let r = c.args.end.now in
    let v = c.value_of_slot.result in
    let saw = c.value_of_slot.ensures.sees values in
    read_flagged o m c.args.key v c.look_birth-birth.result r c.requires.key c.requires.may
    (returns-in-Ok-clause-on c) (returns-in-Ok-clause-won c) saw.0
    (subst (λ (n : ℕ). v ≡ value_of m.view.stores n) c.slot-leaf.ensures saw.1)

pub returns-in-Ok-clause-sees : goal.returns-in-Ok-clause-sees
returns-in-Ok-clause-sees c = λ values.
    let m = c.value_of_slot.new.pass in
    let v = c.value_of_slot.result in
    let saw = c.value_of_slot.ensures.sees values in
    (saw.0, subst (λ (n : ℕ). v ≡ value_of m.view.stores n) c.slot-leaf.ensures saw.1)
