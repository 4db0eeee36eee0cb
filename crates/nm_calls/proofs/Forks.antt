-- Two new nodes, filled and linked.
use Rattle.std.proofs.Common.{◌≡◌, ◌≢◌, ◌≤◌, List, inl, inr, ℕ, Bool, true, false, sym, ap, subst, ◌∙◌}
use Rattle.std.specs.Prelude.{Option, Some, None}
use native.Mathlib.Decide.{ℕ_discrete}
use Rattle.nm_edge.specs.Edges.{Edge}
use Rattle.nm_edge.specs.Layouts.{Layout}
use Rattle.nm_walks.specs.declared.seek_record.ChainEdge.{ChainEdge}
use Rattle.nm_walks.specs.Places.{HasStopped, HasPlace, IsNarrowed}
use Rattle.nm_model.specs.declared.event.Op.TheVariants.{Insert}
use Rattle.nm_model.specs.declared.knowledge.Draft.{Draft}
use Rattle.nm_model.specs.Maps.{get}
use Rattle.nm_model.specs.Searches.{Search}
use Rattle.nm_order.specs.Facts.Since.{ThePin}
use Rattle.nm_order.specs.Facts.Fact.{KnowsSlot, CallIs, EndedAt}
use Rattle.nm_steps.specs.Rules.{knowledge}
use Rattle.nm_model.specs.declared.event.Event.{Event}
use Rattle.nm_model.specs.declared.reply.Reply.{Reply}
use Rattle.nm_steps.specs.Steps.{TreeView, PassView, IsSamePass, TakesStep, Continues}
use Rattle.nm_steps.proofs.Seeing.{continues_then, continues_by}
use Rattle.nm_epoch.specs.Resting.{search}
use Rattle.nm_walks.specs.declared.making.NewNodes.{NewNodes}
use Rattle.nm_walks.specs.declared.seek_record.WalkEnd.{WalkEnd}
use Rattle.nm_walks.specs.Telling.{Tells, GoesOn, OnlyLooks}
use Rattle.nm_walks.specs.Making.{IsPlace, IsWithin, OnlyMakes}
use Rattle.nm_calls.specs.Leaving.{EndedWith, IsItsAnswer}
use Rattle.nm_calls.proofs.KeptLedgers.{ledgers_then}
use Rattle.nm_walks.specs.Growing.{HasBothNodes, IfReady, HoldsNewNodes, HasNewNodes, HasGrown, HasNotGrown, MayGrow}
use Rattle.nm_calls.specs.Inserts.{OnlyTries}
use Rattle.nm_walks.proofs.Makes.{same_draft}
use Rattle.nm_walks.proofs.Forks.{place_kept}

-- ---- the new nodes over steps

ready_kept : (p q : PassView) (f : NewNodes) → IsSamePass p q → (knowledge q.view).drafts ≡ (knowledge p.view).drafts
    → HasBothNodes p f → HasBothNodes q f
ready_kept p q f same is r =
    let at = λ (s : ℕ). same_draft p q s (ap (λ m. get m s) is) in
    let low : q.view.layout ≡ p.view.layout = ap (λ (x : PassView). x.view.layout) same in
    record {
      apart = r.apart;
      new_birth = ap (λ (d : Draft). d.birth) (at f.internal.slot) ∙ r.new_birth;
      fresh_birth = ap (λ (d : Draft). d.birth) (at f.leaf.slot) ∙ r.fresh_birth;
      new_within = subst (λ (L : Layout). f.internal.slot ≤ L.nodes) (sym low) r.new_within;
      fresh_within = subst (λ (L : Layout). f.leaf.slot ≤ L.nodes) (sym low) r.fresh_within;
    }

-- they stay where no private slot changes
pub kept_fork : (o p q : PassView) (f : Option NewNodes) → IsSamePass p q
    → (knowledge q.view).drafts ≡ (knowledge p.view).drafts → HasNewNodes o p f → HasNewNodes o q f
kept_fork o p q None same is h = λ s. ap (λ m. get m s) is ∙ h s
kept_fork o p q (Some f) same is h = record {
  ready = ready_kept p q f same is h.ready;
  others = λ s a b. ap (λ m. get m s) is ∙ h.others s a b;
  new_was = h.new_was;
  fresh_was = h.fresh_was;
}

-- a lost link leaves them
pub lost_fork : (radix : Bool) (o p q : PassView) (key : ℕ) (e : WalkEnd) (f : NewNodes) (x : Edge)
    → HoldsNewNodes o p f → HasNotGrown radix p q key e f x → HoldsNewNodes o q f
lost_fork radix o p q key e f x h lost = record {
  ready = lost.ready;
  others = λ s a b. lost.others s a b ∙ h.others s a b;
  new_was = h.new_was;
  fresh_was = h.fresh_was;
}

-- and a won one takes them
pub linked_fork : (radix : Bool) (o p q : PassView) (key : ℕ) (e : WalkEnd) (f : NewNodes) → HoldsNewNodes o p f
    → HasGrown radix p q key e f → HasNewNodes o q None
linked_fork radix o p q key e f h won s = elim (ℕ_discrete s f.internal.slot) [
  | yes at ↦ rw at (won.new_given ∙ sym h.new_was)
  | no ne ↦ elim (ℕ_discrete s f.leaf.slot) [
    | yes at ↦ rw at (won.fresh_given ∙ sym h.fresh_was)
    | no other ↦ won.others s ne other ∙ h.others s ne other
  ]
]

pub held_fork : (o p : PassView) (f : Option NewNodes) (made : NewNodes) → f ≡ Some made → HasNewNodes o p f
    → HoldsNewNodes o p made
held_fork o p f made is h = subst (λ (g : Option NewNodes). HasNewNodes o p g) is h

-- ---- a link may be tried where a walk has ended

-- what the walk of an insert has told, by the call's pin
placed : (b : Bool) (p r : PassView) (key : ℕ) (e : WalkEnd) → HasPlace b p r key e → Tells p (CallIs Insert key)
    → IsPlace b r key e.seek_record.edge.slot e.seek_record.parent e.seek_record.side e.key
placed false p r key e h call = (h.leaf, h.found ThePin (Insert, call))
placed true p r key e h call = (h.over, h.read ThePin (Insert, call), within h.narrowed)
  where
    within : IsNarrowed p r key e.seek_record.parent e.seek_record.side
        → IsWithin r key e.seek_record.parent e.seek_record.side
    within (inl first) = inl first
    within (inr w) = inr (w.0, w.1, w.2, w.3, w.4, w.5 ThePin (Insert, call))

pub may_grow : (b : TreeView) (p r q : PassView) (key : ℕ) (e : WalkEnd) (c : List ChainEdge) (made : NewNodes)
    → q.view.layout ≡ b.layout → Tells p (CallIs Insert key) → (search p).linked ≡ false → (search p).swapped ≡ false
    → GoesOn p r → OnlyLooks p r
    → HasStopped b.layout key p r c e → HasPlace b.layout.radix p r key e → e.key ≢ key → GoesOn r q → OnlyMakes r q
    → HasBothNodes q made → MayGrow q key e made
may_grow b p r q key e c made layout call unlinked unswapped on only stopped place other on' only' ready = record {
  call = on'.keeps (CallIs Insert key) (on.keeps (CallIs Insert key) call);
  unlinked = ap (λ (s : Search). s.linked) only'.search ∙ (only.linked ∙ unlinked);
  unswapped = ap (λ (s : Search). s.swapped) only'.search ∙ (only.swapped ∙ unswapped);
  parent = on'.keeps (KnowsSlot e.seek_record.parent) stopped.at.parent;
  known = on'.keeps (KnowsSlot e.seek_record.edge.slot) stopped.at.node;
  within = subst (λ (L : Layout). e.seek_record.edge.slot ≤ L.nodes) (sym layout) stopped.within;
  place = subst (λ (L : Layout). IsPlace L.radix q key e.seek_record.edge.slot e.seek_record.parent
      e.seek_record.side e.key) (sym layout)
      (place_kept b.layout.radix r q key e.seek_record.edge.slot e.seek_record.parent e.seek_record.side e.key on'
      (placed b.layout.radix p r key e place call));
  other = other;
  ready = ready;
}

-- ---- from try to try

pub if_ready : (o p : PassView) (f : Option NewNodes) → HasNewNodes o p f → IfReady p f
if_ready o p None h = tt
if_ready o p (Some f) h = h.ready

-- all is given back, and then private slots stay
pub none_left : (o p q : PassView) → (knowledge q.view).drafts ≡ (knowledge p.view).drafts → HasNewNodes o p None
    → HasNewNodes o q None
none_left o p q is h s = ap (λ m. get m s) is ∙ h s

pub tries_then : (o p q : PassView) → IsSamePass o p → OnlyTries o p → OnlyTries p q → OnlyTries o q
tries_then o p q same a b = record {
  announcement = b.announcement ∙ a.announcement;
  pin = b.pin ∙ a.pin;
  labelled = λ none'. b.labelled (a.labelled none');
  call = b.call ∙ a.call;
  swapped = b.swapped ∙ a.swapped;
  flagged = b.flagged ∙ a.flagged;
  ledgers = ledgers_then o p q same a.ledgers b.ledgers;
}

-- the answer of an insert whose key was found
pub found_answer : (p q : PassView) (k : ℕ) → GoesOn p q → (search q).linked ≡ (search p).linked
    → (search p).linked ≡ false → Tells p (CallIs Insert k) → ((leaf : ℕ) × EndedWith p ThePin k leaf k)
    → IsItsAnswer q false
found_answer p q k on linked unlinked call ended = (
  Insert,
  k,
  on.keeps (CallIs Insert k) call,
  (
    (
      ended.0,
      (ended.1.0, ended.1.1, on.keeps (EndedAt ThePin k ended.0 ended.1.0 ended.1.1 k) ended.1.2),
    ),
    linked ∙ unlinked,
  ),
)

-- what goes on continues
pub going_continues : (o p : PassView) → GoesOn o p → Continues o p
going_continues o p on = record { same = on.same; past = on.past; run = on.run; stores = on.stores }

-- the call's last step
pub continued : (o p q : PassView) (e : Event) (r : Reply) → GoesOn o p → TakesStep p q e r → Continues o q
continued o p q e r on step = continues_then o p q (going_continues o p on) (continues_by p q e r step)
