use Rattle.std.proofs.Common.{rules, true, false, inl, inr, ap}
use Rattle.nm_model.specs.declared.event.Op.TheVariants.{Delete}
use Rattle.nm_order.specs.Facts.Fact.{CallIs}
use Rattle.nm_steps.specs.Steps.{PassView}
use Rattle.nm_steps.proofs.Seeing.{seen_all}
use Rattle.nm_calls.specs.Deletes.{FinishDid}
use Rattle.nm_calls.proofs.Moments.{no_call_on}
use Rattle.nm_calls.proofs.Removals.{removing_on}
use Rattle.nm_calls.proofs.AddingDeletes.{finish_wins, finish_steps}
use Rattle.nm_calls.proofs.Waiting.{few_in_table}
use Rattle.nm_calls.proofs.deleting.finish.Goals as goal

pub returns-in-Removed-clause-after : goal.returns-in-Removed-clause-after
returns-in-Removed-clause-after c =
    let L = c.args.shared.now.layout in
    let old = c.args.pass.now.view.log in
    let mid = c.remove.new.pass.view.log in
    let new = c.answer.new.pass.view.log in
    let did : FinishDid L c.args.pending.now.key c.args.pending.now.leaf c.args.tries old new true = (
      mid,
      c.in-Removed.ensures.part,
      ap (λ (x : PassView). x.view.log) c.answer.ensures.took.step,
    ) in
    record {
      same = search rules;
      past = search (rules, seen_all);
      did = did;
      moment = λ yes o had. c.answer.ensures.moment o Delete c.args.pending.now.key
          (no_call_on o c.args.pass.now c.remove.new.pass had c.remove.ensures.on.same c.remove.ensures.on.past)
          (c.remove.ensures.on.keeps (CallIs Delete c.args.pending.now.key) c.requires.removing.call);
      won = finish_wins L c.args.pending.now.key c.args.pending.now.leaf c.args.tries old new true did;
      steps = finish_steps L c.args.pending.now.key c.args.pending.now.leaf c.args.tries old new true did;
      run = search rules;
      rests = search rules;
      removing = search rules;
      private = search rules;
      ledgers = search rules;
    }

pub returns-in-Refused-clause-after : goal.returns-in-Refused-clause-after
returns-in-Refused-clause-after c =
    let L = c.args.shared.now.layout in
    let old = c.args.pass.now.view.log in
    let new = c.remove.new.pass.view.log in
    let did : FinishDid L c.args.pending.now.key c.args.pending.now.leaf c.args.tries old new false = inl
    c.in-Refused.ensures.part in
    record {
      same = search rules;
      past = search (rules, seen_all);
      did = did;
      moment = search rules;
      won = finish_wins L c.args.pending.now.key c.args.pending.now.leaf c.args.tries old new false did;
      steps = finish_steps L c.args.pending.now.key c.args.pending.now.leaf c.args.tries old new false did;
      run = search rules;
      rests = search rules;
      removing = λ no. removing_on c.args.pass.now c.remove.new.pass c.args.pending.now.key c.args.pending.now.leaf
          c.requires.removing c.remove.ensures.on c.remove.ensures.only;
      private = search rules;
      ledgers = search rules;
    }

pub returns-in-Spent-clause-after : goal.returns-in-Spent-clause-after
returns-in-Spent-clause-after c =
    let L = c.args.shared.now.layout in
    let old = c.args.pass.now.view.log in
    let new = c.remove.new.pass.view.log in
    let did : FinishDid L c.args.pending.now.key c.args.pending.now.leaf c.args.tries old new false = inr
    c.in-Spent.ensures.part in
    record {
      same = search rules;
      past = search (rules, seen_all);
      did = did;
      moment = search rules;
      won = finish_wins L c.args.pending.now.key c.args.pending.now.leaf c.args.tries old new false did;
      steps = finish_steps L c.args.pending.now.key c.args.pending.now.leaf c.args.tries old new false did;
      run = search rules;
      rests = search rules;
      removing = λ no. removing_on c.args.pass.now c.remove.new.pass c.args.pending.now.key c.args.pending.now.leaf
          c.requires.removing c.remove.ensures.on c.remove.ensures.only;
      private = search rules;
      ledgers = search rules;
    }

pub returns-in-Removed-clause-few : goal.returns-in-Removed-clause-few
returns-in-Removed-clause-few c = few_in_table c.args.shared.now c.args.pass.now c.remove.new.pass c.remove.new.held
    c.requires.own c.remove.ensures.on.same c.remove.ensures.on.run c.remove.ensures.kept

pub returns-in-Refused-clause-few : goal.returns-in-Refused-clause-few
returns-in-Refused-clause-few c = few_in_table c.args.shared.now c.args.pass.now c.remove.new.pass c.remove.new.held
    c.requires.own c.remove.ensures.on.same c.remove.ensures.on.run c.remove.ensures.kept

pub returns-in-Spent-clause-few : goal.returns-in-Spent-clause-few
returns-in-Spent-clause-few c = few_in_table c.args.shared.now c.args.pass.now c.remove.new.pass c.remove.new.held
    c.requires.own c.remove.ensures.on.same c.remove.ensures.on.run c.remove.ensures.kept
