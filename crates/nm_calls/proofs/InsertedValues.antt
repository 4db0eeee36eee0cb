-- The value of an insert is that of the leaf which it links.
use Rattle.std.proofs.Common.{◌≡◌, ℕ, Bool, List, [], ◌∷◌, ◌++◌, append_assoc, length, sym, ap, ◌∙◌, arith}
use Rattle.std.proofs.lemmas.List.{length-append}
use Rattle.nm_model.specs.declared.event.Event.TheVariants.{LeaveWith, Link}
use Rattle.nm_model.specs.declared.reply.Reply.TheVariants.{Departed, Linked}
use Rattle.nm_model.specs.declared.trace.Turn.{Turn}
use Rattle.nm_model.specs.Walks.{Entry}
use Rattle.nm_steps.specs.Rules.{answered_turn}
use Rattle.nm_steps.specs.Steps.{PassView, TakesStep}
use Rattle.nm_walks.specs.declared.making.NewNodes.{NewNodes}
use Rattle.nm_walks.specs.declared.seek_record.WalkEnd.{WalkEnd}
use Rattle.nm_walks.specs.Growing.{HasGrown, HasLinkedValue}
use Rattle.nm_walks.specs.Making.{fills}
use Rattle.nm_calls.specs.Maps.{HasInserted, answered}

pub inserted : (radix : Bool) (p q : PassView) (k v : ℕ) (r : WalkEnd) (f : NewNodes) → HasGrown radix p q k r f
    → HasLinkedValue q f.leaf.slot v → HasInserted [] q k v
inserted radix p q k v r f g s =
    let before : List Entry = p.view.log ++ fills f.internal.slot g.part.0.key g.part.0.left g.part.0.right in
    let long : s.own ≡ length (before ++ fills f.leaf.slot k 0 0) =
    (let whole = ap (λ (l : List Entry). length l) g.part.3
    ∙ length-append (before ++ fills f.leaf.slot k 0 0)
    ((Link r.seek_record.parent r.seek_record.side r.seek_record.edge.slot f.internal.slot, Linked f.internal)
    ∷ []) in let last = s.last in omega (arith, whole, last)) in
    record {
      before = before;
      slot = f.leaf.slot;
      parent = r.seek_record.parent;
      side = r.seek_record.side;
      old = r.seek_record.edge.slot;
      new = f.internal.slot;
      node = f.internal;
      log = g.part.3;
      earlier = s.earlier;
      at = s.at;
      stores = s.is ∙ ap (λ (n : ℕ). s.earlier ++ record {
        at = s.at;
        worker = q.view.number;
        own = n;
        slot =
            f.leaf.slot;
        value = v;
      } ∷ []) long;
      early = s.early;
    }

-- and stays so over the answer
pub inserted_then : (q z : PassView) (answer : Bool) (k v : ℕ) → HasInserted [] q k v
    → TakesStep q z (LeaveWith answer) Departed → HasInserted (answered answer) z k v
inserted_then q z answer k v s took = record {
  before = s.before;
  slot = s.slot;
  parent = s.parent;
  side = s.side;
  old = s.old;
  new = s.new;
  node = s.node;
  log = ap (λ (x : PassView). x.view.log) took.step
      ∙ (ap (λ (l : List Entry). l ++ answered answer) s.log
      ∙ append_assoc (s.before ++ fills s.slot k 0 0) ((Link s.parent s.side s.old s.new, Linked s.node) ∷ [])
      (answered answer));
  earlier = s.earlier;
  at = s.at;
  stores = took.stores ∙ (s.stores ∙ ap (λ (n : ℕ). s.earlier
      ++ record { at = s.at; worker = n; own = length (s.before ++ fills s.slot k 0 0); slot = s.slot; value = v }
      ∷ []) (sym (ap (λ (x : PassView). x.view.number) took.step)));
  early = (
      let whole = ap (λ (l : List Turn). length l) took.past.is
      ∙ length-append took.past.before (answered_turn q.view.number (LeaveWith answer) Departed ∷ []) in
      let first = ap (λ (l : List Turn). length l) took.past.extends.is
      ∙ length-append q.view.past took.past.extends.more in
      let less = s.early in
      omega (arith, whole, first, less)
      );
}
