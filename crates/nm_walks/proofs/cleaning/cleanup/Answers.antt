use Rattle.std.proofs.Common.{rules, ℕ, List, length, arith, sym, ap, subst, ◌∙◌}
use Rattle.std.specs.Prelude.{Option, option_map}
use Rattle.nm_edge.specs.declared.node.NodeId.{NodeId}
use Rattle.nm_steps.specs.Rules.{knowledge}
use Rattle.nm_steps.specs.Steps.{PassView}
use Rattle.nm_walks.specs.declared.seek_record.ChainEdge.{ChainEdge}
use Rattle.nm_walks.specs.Cleanups.{HasCutNothing, freed_of_origin}
use Rattle.nm_walks.specs.Telling.{Tells}
use Rattle.nm_walks.specs.Walks.{IsAt}
use Rattle.nm_epoch.specs.Collecting.{capped}
use Rattle.nm_walks.proofs.WholeCleanups.{lost_steps, won_steps, only_cleans, one_more}
use Rattle.nm_walks.proofs.Adding.{cut_adds, not_cleaned_adds, adds_then, adds_these, splice_counts}
use Rattle.nm_walks.proofs.KeptLedgers.{holds_on}
use Rattle.nm_walks.proofs.cleaning.cleanup.Goals as goal

pub cut_off-requires-clause-at : goal.cut_off-requires-clause-at
cut_off-requires-clause-at c = subst (λ (chain : List ChainEdge). IsAt (Tells c.args.pass.now) c.args.seek_record.now
    chain) (sym c.as_slice.ensures.value) c.requires.at

pub returns-then-not-cut_off-clause-lost : goal.returns-then-not-cut_off-clause-lost
returns-then-not-cut_off-clause-lost c = λ no. subst
    (λ (chain : List ChainEdge). HasCutNothing c.args.seek_record.now chain c.args.pass.now c.cut_off.new.pass)
    c.as_slice.ensures.value (c.cut_off.ensures.lost c.if-not-cut_off.true)

pub returns-then-not-cut_off-clause-steps : goal.returns-then-not-cut_off-clause-steps
returns-then-not-cut_off-clause-steps c =
    let most = lost_steps c.args.seek_record.now c.as_slice.result.now c.args.pass.now.view.log
    c.cut_off.new.pass.view.log (c.cut_off.ensures.lost c.if-not-cut_off.true).part in
    let long = ap (λ (chain : List ChainEdge). length chain) c.as_slice.ensures.value in
    omega (arith, most, long)

pub returns-clause-only : goal.returns-clause-only
returns-clause-only c = only_cleans c.args.seek_record.now c.as_slice.result.now c.cut_off.new.nodes.items
    c.label-epoch.result c.args.pass.now c.cut_off.new.pass c.label-epoch.new.pass c.requires.pinned.run
    (c.cut_off.ensures.won c.if-not-cut_off.false) c.cut_off.ensures.only c.label-epoch.ensures.only
    c.label-epoch.ensures.step

pub returns-clause-steps : goal.returns-clause-steps
returns-clause-steps c =
    let one = won_steps c.args.seek_record.now c.as_slice.result.now c.cut_off.new.nodes.items
    c.args.pass.now.view.log c.cut_off.new.pass.view.log (c.cut_off.ensures.won c.if-not-cut_off.false).part in
    let two = one_more _ c.cut_off.new.pass.view.log c.label-epoch.new.pass.view.log
    (ap (λ (x : PassView). x.view.log) c.label-epoch.ensures.step) in
    let long = ap (λ (chain : List ChainEdge). length chain) c.as_slice.ensures.value in
    omega (arith, one, two, long)

pub returns-then-not-cut_off-clause-kept : goal.returns-then-not-cut_off-clause-kept
returns-then-not-cut_off-clause-kept c = holds_on _ _ _ c.cut_off.ensures.on.same
    (c.cut_off.ensures.lost c.if-not-cut_off.true).only.ledgers
    (not_cleaned_adds c.args.seek_record.now c.as_slice.result.now c.args.pass.now.view.log
    c.cut_off.new.pass.view.log (c.cut_off.ensures.lost c.if-not-cut_off.true).part) c.requires.kept

pub returns-clause-kept : goal.returns-clause-kept
returns-clause-kept c = record {
  own = search rules;
  queue = search rules;
  freed = (
      let F : ℕ → Option ℕ = λ o. option_map (λ (ns : List NodeId). capped (length ns))
      (freed_of_origin (knowledge c.label-epoch.new.pass.view) o) in
      ap (λ (x : PassView). F x.view.number) c.label-epoch.ensures.on.same
      ∙ ap (λ (x : PassView). F x.view.number) c.cut_off.ensures.on.same
      ∙ ap (option_map (λ (ns : List NodeId). capped (length ns))) (returns-clause-only c).ledgers.freed
      ∙ c.requires.kept.freed
      );
  counted = (
      let old = c.args.pass.now.view.log in
      let mid = c.cut_off.new.pass.view.log in
      let new = c.label-epoch.new.pass.view.log in
      splice_counts _ _ old new
      (adds_then old mid new (cut_adds c.args.seek_record.now c.as_slice.result.now c.cut_off.new.nodes.items old mid
      (c.cut_off.ensures.won c.if-not-cut_off.false).part)
      (adds_these _ mid new (ap (λ (x : PassView). x.view.log) c.label-epoch.ensures.step)))
      c.saturating_add-held.ensures c.requires.kept.counted
      );
}
