-- A step on a value keeps all that a pass knows.
use Rattle.std.proofs.Common.{◌≡◌, ◌⊎◌, inl, inr, ℕ, List, [], ◌∷◌, append_assoc, length, refl, sym, ap, subst, ◌∙◌, arith}
use Rattle.std.specs.Prelude.{◌++◌, Contains, Option, Some, Result, Ok, Err, IfOk, unwrap_or}
use Rattle.std.proofs.lemmas.List.{length-append}
use Rattle.std.proofs.lemmas.List.Elements.{Contains-push}
use Rattle.nm_edge.specs.Edges.{Edge}
use Rattle.nm_edge.specs.Layouts.{IsLayout}
use Rattle.nm_edge.specs.declared.edge.Side.{Side}
use Rattle.nm_model.specs.declared.event.Event.{Event}
use Rattle.nm_model.specs.declared.event.Event.TheVariants.{Link}
use Rattle.nm_model.specs.declared.knowledge.Draft.{Draft}
use Rattle.nm_model.specs.declared.reply.Reply.{Reply}
use Rattle.nm_model.specs.declared.reply.Reply.TheVariants.{Linked}
use Rattle.nm_model.specs.declared.trace.Turn.{Turn}
use Rattle.nm_model.specs.Knowledge.{draft_of, unfilled}
use Rattle.nm_model.specs.Maps.{get}
use Rattle.nm_model.specs.Searches.{idle}
use Rattle.nm_model.specs.Step.{node_linked}
use Rattle.nm_model.specs.Walks.{search_after}
use Rattle.nm_order.specs.Hands.{IsPooled}
use Rattle.nm_order.specs.Logs.{known_by}
use Rattle.nm_steps.specs.declared.view.Stored.{Stored}
use Rattle.nm_steps.specs.Rules.{IsStored, LinkHasValue, answered_turn, knowledge, new_leaf}
use Rattle.nm_steps.specs.Steps.{HasSeenAllOf, PassView, TreeView, Continues, TakesStep, link_reply}
use Rattle.nm_steps.specs.Values.{HasStoredFor, HasValues, OnlySees, own_store}
use Rattle.nm_steps.proofs.ValueStays.{continues_by_value}
use Rattle.nm_walks.specs.Growing.{HasLinkedLeaf, HasLinkedValue}
use Rattle.nm_walks.specs.Making.{HasFilled, HasJustStored, IsInserting, OnlyMakes}
use Rattle.nm_walks.specs.Telling.{GoesOn, OnlyLooks, Tells}
use Rattle.nm_walks.proofs.Linking.{is_fresh}

pub goes_by_value : (p q : PassView) → OnlySees p q → IsLayout p.view.layout → GoesOn p q
goes_by_value p q l fits =
    let on : Continues p q = continues_by_value p q l
    (subst (λ (z : PassView). IsLayout z.view.layout) (sym l.same) fits) in
    record {
      same = on.same;
      past = on.past;
      run = on.run;
      stores = l.stores;
      keeps = λ fact holds. subst (λ (z : PassView). Tells z fact) (sym l.same) holds;
    }

pub only_by_value : (p q : PassView) → OnlySees p q → OnlyMakes p q
only_by_value p q l = record {
  epochs = ap (λ (z : PassView). (knowledge z.view).brief) l.same;
  known = ap (λ (z : PassView). (knowledge z.view).known) l.same;
  ledgers = ap (λ (z : PassView). (knowledge z.view).ledgers) l.same;
  search = ap (λ (z : PassView). search_after idle z.view.log) l.same;
}

pub looks_by_value : (p q : PassView) → OnlySees p q → OnlyLooks p q
looks_by_value p q l = record {
  epochs = ap (λ (z : PassView). (knowledge z.view).brief) l.same;
  private = ap (λ (z : PassView). (knowledge z.view).drafts) l.same;
  ledgers = ap (λ (z : PassView). (knowledge z.view).ledgers) l.same;
  call = ap (λ (z : PassView). (search_after idle z.view.log).call) l.same;
  linked = ap (λ (z : PassView). (search_after idle z.view.log).linked) l.same;
  swapped = ap (λ (z : PassView). (search_after idle z.view.log).swapped) l.same;
  flagged = ap (λ (z : PassView). (search_after idle z.view.log).flagged) l.same;
  cut = ap (λ (z : PassView). (search_after idle z.view.log).cut) l.same;
}

-- three fills and then a value
pub filled_by_value : (o p q : PassView) (slot key left right : ℕ) → HasFilled o p slot key left right → OnlySees p q
    → HasFilled o q slot key left right
filled_by_value o p q slot key left right f l = l.same
    ∙ ap (λ (z : PassView). record z { view = record z.view { past = q.view.past; stores = q.view.stores } }) f

pub just_stored : (p q : PassView) (slot value : ℕ) → OnlySees p q → HasStoredFor p q slot value
    → HasJustStored q slot value
just_stored p q slot value l s = (
  s.earlier,
  s.is
      ∙ ap (λ (z : PassView). own_store z.view slot value s.earlier (length q.view.past)) (sym l.same),
)

-- ---- a link after a store

-- the link may be tried
may_link_value : (p : PassView) (parent : ℕ) (side : Side) (leaf new fresh value : ℕ)
    → IsInserting p parent side leaf new fresh → HasJustStored p fresh value
    → IsStored p.view.stores p.view.number (length p.view.log) (new_leaf (knowledge p.view) leaf new)
may_link_value p parent side leaf new fresh value i s =
    let x : Stored = record {
      at = length p.view.past;
      worker = p.view.number;
      own = length p.view.log;
      slot = fresh;
      value = value;
    } in
    record {
      stored = x;
      there = subst (λ (l : List Stored). Contains l x) (sym s.1) (Contains-push s.0 x);
      by_worker = refl;
      at_own = refl;
      for_slot = sym (is_fresh p parent side leaf new fresh i);
    }

pub may_link_stored : (b : TreeView) (p : PassView) (parent : ℕ) (side : Side) (leaf new fresh value : ℕ)
    → IsInserting p parent side leaf new fresh → (b.table.slots ≡ 0) ⊎ HasJustStored p fresh value
    → LinkHasValue b.table.slots p.view (Link parent side leaf new)
may_link_stored b p parent side leaf new fresh value i (inl plain) = inl plain
may_link_stored b p parent side leaf new fresh value i (inr s) = inr
    (may_link_value p parent side leaf new fresh value i s)

-- a table with values has slots
pub has_stored : (b : TreeView) (p : PassView) (slot value : ℕ) → IsLayout b.layout → HasValues b
    → (b.table.slots ≡ 0) ⊎ HasJustStored p slot value → HasJustStored p slot value
has_stored b p slot value fits values (inl plain) = absurd
    (let least = fits.least in let slots = values.slots_are in omega (arith, least, slots, plain))
has_stored b p slot value fits values (inr s) = s

-- and the store is the last one after it
linked_value : (p q : PassView) (e : Event) (r : Reply) (slot value : ℕ) → HasJustStored p slot value
    → TakesStep p q e r → HasLinkedValue q slot value
linked_value p q e r slot value s took = record {
  earlier = s.0;
  at = length p.view.past;
  own = length p.view.log;
  is = took.stores ∙ (s.1 ∙ ap (λ (z : PassView). own_store (record p.view { number = z.view.number }) slot value s.0
      (length p.view.past)) (sym took.step));
  early = (
      let whole = ap (λ (l : List Turn). length l) took.past.is
      ∙ length-append took.past.before (answered_turn p.view.number e r ∷ []) in
      let first = ap (λ (l : List Turn). length l) took.past.extends.is
      ∙ length-append p.view.past took.past.extends.more in
      omega (arith, whole, first)
      );
  last = sym (ap (λ (z : PassView). length z.view.log) took.step ∙ length-append p.view.log ((e, r) ∷ []));
}

pub if_linked_value : {A E : Type 0} (result : Result A E) (p q : PassView) (e : Event) (r : Reply) (slot value : ℕ)
    → HasJustStored p slot value → TakesStep p q e r → IfOk result (λ _. HasLinkedValue q slot value)
if_linked_value (Ok u) p q e r slot value s took = linked_value p q e r slot value s took
if_linked_value (Err u) p q e r slot value s took = tt

-- what the link shows of the new leaf
pub if_linked_leaf : (r : Result Unit Edge) (o p q : PassView) (parent : ℕ) (side : Side) (leaf new fresh key : ℕ)
    (d : Draft) → IsInserting p parent side leaf new fresh → get (knowledge p.view).drafts fresh ≡ Some d
    → d.key ≡ Some key → IsPooled p.view.layout fresh
    → HasSeenAllOf p o → TakesStep p q (Link parent side leaf new) (link_reply p.view new r)
    → IfOk r (λ _. HasLinkedLeaf o q fresh key)
if_linked_leaf (Err e) o p q parent side leaf new fresh key d i there has pooled seen took = tt
if_linked_leaf (Ok u) o p q parent side leaf new fresh key d i there has pooled seen took = record {
  before = took.past.before;
  extends = record {
    more = seen.goes_on.more ++ took.past.extends.more;
    is = took.past.extends.is ∙ (ap (λ (l : List Turn). l ++ took.past.extends.more) seen.goes_on.is
        ∙ append_assoc o.view.past seen.goes_on.more took.past.extends.more);
  };
  log = p.view.log;
  parent = parent;
  side = side;
  old = leaf;
  new = new;
  node = node_linked (knowledge p.view) new;
  past = took.past.is ∙ ap (λ (z : PassView). took.past.before
      ++ answered_turn z.view.number (Link parent side leaf new) (Linked (node_linked (knowledge p.view) new)) ∷ [])
      (sym took.step);
  is_log = ap (λ (z : PassView). z.view.log) took.step;
  fresh = ap (λ (z : PassView). new_leaf (known_by z.view.layout z.view.number p.view.log) leaf new) took.step
      ∙ is_fresh p parent side leaf new fresh i;
  has_key = ap (λ (z : PassView). (draft_of (known_by z.view.layout z.view.number p.view.log) fresh).key) took.step
      ∙ (ap (λ (o : Option Draft). (unwrap_or o unfilled).key) there ∙ has);
  pooled = subst (λ (z : PassView). IsPooled z.view.layout fresh) (sym took.step) pooled;
}
