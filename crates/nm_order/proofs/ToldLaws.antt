-- What the last entry of a log tells.
use Rattle.std.proofs.Common.{◌≡◌, ◌≢◌, ◌==◌, ℕ, ◌≤◌, inl, inr, true, List, [], refl, sym, ap, subst, ◌∙◌, arith}
use Rattle.std.proofs.lemmas.Bool.{cases_lt, eqb-true, and_parts}
use Rattle.nm_edge.specs.Edges.{Edge, other}
use Rattle.nm_edge.specs.Layouts.{Layout}
use Rattle.nm_edge.specs.declared.edge.Side.{Side}
use Rattle.nm_edge.specs.declared.edge.Side.TheVariants.{Left, Right}
use Rattle.nm_model.specs.declared.event.Field.TheVariants.{Key}
use Rattle.nm_model.specs.declared.event.Event.{Event}
use Rattle.nm_model.specs.declared.event.Event.TheVariants.{Look}
use Rattle.nm_model.specs.declared.reply.Reply.{Reply}
use Rattle.nm_model.specs.declared.reply.Reply.TheVariants.{KeyIs}
use Rattle.nm_model.specs.declared.reply.Refused.TheVariants.{NoSlot}
use Rattle.nm_model.specs.Memory.{Memory, node, edge, child, infinity_0}
use Rattle.nm_model.specs.Knowledge.{knows}
use Rattle.nm_model.specs.Step.{outside, refusal, reply}
use Rattle.nm_model.specs.Runs.{State, of, reply_of}
use Rattle.nm_model.specs.Walks.{Entry}
use Rattle.nm_model.specs.Ordered.{search_of}
use Rattle.nm_laws.proofs.Steps.{Allowed, allowed, passed}
use Rattle.nm_laws.proofs.TreeSteps.{Lawful, high_from}
use Rattle.nm_laws.proofs.Pictures.{IsLive}
use Rattle.nm_laws.proofs.Views.{picture}
use Rattle.nm_laws.proofs.Configurations.{allowed_by_state}
use Rattle.nm_laws.proofs.Retired.{layout_after}
use Rattle.nm_order.specs.Logs.{known_by}
use Rattle.nm_order.specs.Facts.{Fact, HoldsIn, Holds, IsTrueIn}
use Rattle.nm_order.specs.Facts.Fact.{KnowsSlot, KnowsLeaf, IsTagged, IsFlagged}
use Rattle.nm_order.specs.Told.{TellsEdge, OfEachEntry, TwinsAreToldFlagged, FlagsAreTold, FlaggedEdgesLeadHigh, EdgesStayInside, RootLeads, LeavesLeadNowhere, TagsLead, LowKeysStandHigh, FlaggedEdgesStandHigh}
use Rattle.nm_order.specs.Told.TellsEdge.{ByLook, ByLink, ByFlag, ByTag, BySplice, BySwap}
use Rattle.nm_order.proofs.OrderedLaws.{law_of_state}
use Rattle.nm_order.proofs.Sentinels.{sentinels_of, sentinel_is_high, flags_stand_high}
use Rattle.nm_order.proofs.KnowledgeStays.{Answers, answers}
use Rattle.nm_order.proofs.LastEntries.{PartOf, LastEntry, last_entry}
use Rattle.nm_order.proofs.LastEntries.PartOf.{Own, Resigns}
use Rattle.nm_order.proofs.FactLaws.{AllKept, all_kept, true_in, told_holds}

-- ---- the state before the last entry

module _ (L : Layout) (enough : 5 ≤ L.nodes) (w : ℕ) (log : List Entry) (entry : Entry)
    (last : LastEntry L w log entry) where
  abbrev pub state : State
  state = last.before.state

  pub lawful_before : (h : ℕ → ℕ) × Lawful last.before.state h
  lawful_before = law_of_state L enough last.before last.told.is_ordered

  pub allowed_before : Allowed last.before.state last.by entry.0
  allowed_before = allowed last.before.state last.by entry.0
      (allowed_by_state last.before last.by entry.0 last.is_allowed)

  pub is_answered : Answers last.before.state.memory entry.0 entry.1
  is_answered = by last.takes
    where
      by : PartOf w last.by entry.0 → Answers last.before.state.memory entry.0 entry.1
      by (Own is) = subst (λ (r : Reply). Answers last.before.state.memory entry.0 r) last.replied
          (answers last.before.state lawful_before.0 lawful_before.1 last.by entry.0 allowed_before)
      by (Resigns v is) = subst (λ (e : Event). Answers last.before.state.memory e entry.1) (sym is) tt

  -- what was known then is what the log tells
  pub known_then : of last.before.state w ≡ known_by L w log
  known_then = last.told.knows

  pub holds_then : (fact : Fact) → Holds L w log fact
      → HoldsIn (of last.before.state w) (search_of last.told.is_ordered.searches w) fact
  holds_then fact holds = told_holds L w log last.before last.told fact holds

  -- and true of that state
  pub true_then : (fact : Fact) → Holds L w log fact → IsTrueIn last.before.state w fact
  true_then fact holds = true_in L enough last.before last.told.is_ordered w
      (kept last.told.is_ordered.searches last.told.is_ordered.are w) fact (holds_then fact holds)
    where
      kept : AllKept last.before
      kept = subst AllKept last.leads (all_kept L enough last.turns last.keys)

told_edge : (m : Memory) (entry : Entry) (x : ℕ) (side : Side) (e : Edge) → Answers m entry.0 entry.1
    → TellsEdge entry x side e → e ≡ edge m x side
told_edge m _ _ _ _ is (ByLook x side e) = is
told_edge m _ _ _ _ is (ByLink x leaf new side e) = is
told_edge m _ _ _ _ is (ByFlag x leaf side e) = is
told_edge m _ _ _ _ is (ByTag x side e) = is.0
told_edge m _ _ _ _ is (BySplice x s p side keep e) = is
told_edge m _ _ _ _ is (BySwap x leaf new side e) = is

pub live_then : (s : State) (h : ℕ → ℕ) (law : Lawful s h) (w x : ℕ) → knows (of s w) x ≡ true → IsLive (picture s h) x
live_then s h law w x known = law.tree.guarded w x
    (record {
      from = x;
      known = known;
      path = [];
      ends = refl;
      is_slot = λ z.
          (let r = law.tree.known w x known in absurd (omega arith));
    })

pub twice_other : (side : Side) → other (other side) ≡ side
twice_other Left = refl
twice_other Right = refl

pub twins_are_told : OfEachEntry TwinsAreToldFlagged
twins_are_told L enough w log entry l x side e to tells holds = go (last_entry L enough w log entry l)
  where
    go : LastEntry L w log entry → e.flag ≡ true
    go last =
        let s = last.before.state in
        let law = lawful_before L enough w log entry last in
        let fact = holds_then L enough w log entry last (IsTagged x (other side) to) holds in
        let is : edge s.memory x (other side) ≡ fact.0 = law.1.tree.tag_read w x (other side) fact.0 fact.1 fact.2 in
        let tag : (edge s.memory x (other side)).tag ≡ true = ap (λ (y : Edge). y.tag) is ∙ fact.2 in
        let flag : (edge s.memory x (other (other side))).flag
        ≡ true = law.1.tree.frozen x (other side) (live_then s law.0 law.1 w x
        (law.1.tree.reads w x (other side) fact.0 fact.1)) tag in
        ap (λ (y : Edge). y.flag) (told_edge s.memory entry x side e (is_answered L enough w log entry last) tells)
        ∙ (ap (λ (d : Side). (edge s.memory x d).flag) (sym (twice_other side)) ∙ flag)

pub flags_are_told : OfEachEntry FlagsAreTold
flags_are_told L enough w log entry l x side e to tells holds = go (last_entry L enough w log entry l)
  where
    go : LastEntry L w log entry → (e.flag ≡ true) × (e.slot ≡ to)
    go last =
        let is : e ≡ edge last.before.state.memory x side = told_edge last.before.state.memory entry x side e
        (is_answered L enough w log entry last) tells in
        let now = true_then L enough w log entry last (IsFlagged x side to) holds in
        (ap (λ (y : Edge). y.flag) is ∙ now.0, ap (λ (y : Edge). y.slot) is ∙ now.1)

pub flagged_lead_high : OfEachEntry FlaggedEdgesLeadHigh
flagged_lead_high L enough w log entry l x side e tells known flag = go (last_entry L enough w log entry l)
  where
    go : LastEntry L w log entry → 6 ≤ e.slot
    go last =
        let s = last.before.state in
        let law = lawful_before L enough w log entry last in
        let is : e ≡ edge s.memory x side = told_edge s.memory entry x side e (is_answered L enough w log entry last)
        tells in
        rw is (law.1.tree.flags x side (live_then s law.0 law.1 w x
        (holds_then L enough w log entry last (KnowsSlot x) known)) (ap (λ (y : Edge). y.flag) (sym is) ∙ flag))

pub edges_stay_inside : OfEachEntry EdgesStayInside
edges_stay_inside L enough w log entry l x side e tells = go (last_entry L enough w log entry l)
  where
    go : LastEntry L w log entry → e.slot ≤ L.nodes
    go last =
        let law = lawful_before L enough w log entry last in
        let o = last.told.is_ordered in
        let layout : last.before.state.layout ≡ L = ap (λ (s : State). s.layout) o.leads ∙ layout_after L o.events in
        rw (told_edge last.before.state.memory entry x side e (is_answered L enough w log entry last) tells)
        (subst (λ (M : Layout). child last.before.state.memory x side ≤ M.nodes) layout (law.1.tree.within x side))

pub root_leads : OfEachEntry RootLeads
root_leads L enough w log entry l e tells null = go (last_entry L enough w log entry l)
  where
    go : LastEntry L w log entry → ⊥
    go last = (lawful_before L enough w log entry last).1.tree.second
        (ap (λ (y : Edge). y.slot) (sym (told_edge last.before.state.memory entry 2 Left e
        (is_answered L enough w log entry last) tells)) ∙ null)

pub leaves_lead_nowhere : OfEachEntry LeavesLeadNowhere
leaves_lead_nowhere L enough w log entry l x side e tells holds = go (last_entry L enough w log entry l)
  where
    go : LastEntry L w log entry → e.slot ≡ 0
    go last =
        let n = node last.before.state.memory x in
        let null = and_parts (n.left.slot == 0) (n.right.slot == 0)
        (true_then L enough w log entry last (KnowsLeaf x) holds) in
        ap (λ (y : Edge). y.slot) (told_edge last.before.state.memory entry x side e
        (is_answered L enough w log entry last) tells) ∙ by side null
      where
        by : (side : Side) → ((((node last.before.state.memory x).left.slot == 0) ≡ true)
            × (((node last.before.state.memory x).right.slot == 0) ≡ true))
            → (edge last.before.state.memory x side).slot ≡ 0
        by Left null = eqb-true (node last.before.state.memory x).left.slot 0 null.0
        by Right null = eqb-true (node last.before.state.memory x).right.slot 0 null.1

pub tags_lead : OfEachEntry TagsLead
tags_lead L enough w log entry l x side e is = go (last_entry L enough w log entry l)
  where
    go : LastEntry L w log entry → e.slot ≢ 0
    go last = (subst (λ (y : Entry). Answers last.before.state.memory y.0 y.1) is
        (is_answered L enough w log entry last)).1

-- ---- keys

in_range : (s : State) (w x : ℕ) → Allowed s w (Look x Key) → 1 ≤ x
unfolding refusal
in_range s w x ok = (high_from 1 s.layout.nodes x (passed (outside 1 s.layout.nodes x) NoSlot _ ok.event).0).0

pub key_told : (s : State) (w x n : ℕ) → reply_of s w (Look x Key) ≡ KeyIs n → n ≡ (node s.memory x).key
unfolding reply
key_told s w x n is = cc

pub low_keys_stand_high : OfEachEntry LowKeysStandHigh
low_keys_stand_high L enough w log entry l x n is low = go (last_entry L enough w log entry l)
  where
    go : LastEntry L w log entry → 6 ≤ x
    go last = elim (cases_lt 5 x) [
      | inl high ↦ omega arith
      | inr fixed ↦ (let k = keys last in let none = positive last in absurd (omega arith))
    ]
      where
        asked : (last : LastEntry L w log entry) → Allowed last.before.state last.by (Look x Key)
        asked last = subst (λ (e : Event). Allowed last.before.state last.by e) (ap (λ (y : Entry). y.0) is)
            (allowed_before L enough w log entry last)

        positive : (last : LastEntry L w log entry) → 1 ≤ x
        positive last = in_range last.before.state last.by x (asked last)

        read_key : (last : LastEntry L w log entry) → n ≡ (node last.before.state.memory x).key
        read_key last = key_told last.before.state last.by x n
            (subst (λ (y : Entry). reply_of last.before.state last.by y.0 ≡ y.1) is last.replied)

        keys : (last : LastEntry L w log entry) → (1 ≤ x → x ≤ 5 → infinity_0 ≤ n)
        keys last a b = rw (read_key last) (sentinel_is_high last.before.state
            (sentinels_of L last.before last.told.is_ordered) x a b)

-- ---- the slot that a flagged edge is of

pub flagged_stand_high : OfEachEntry FlaggedEdgesStandHigh
flagged_stand_high L enough w log entry l x side e tells known flag = go (last_entry L enough w log entry l)
  where
    go : LastEntry L w log entry → 6 ≤ x
    go last =
        let is : e ≡ edge last.before.state.memory x side = told_edge last.before.state.memory entry x side e
        (is_answered L enough w log entry last) tells in
        flags_stand_high L enough last.before last.told.is_ordered w x side
        (holds_then L enough w log entry last (KnowsSlot x) known) (ap (λ (y : Edge). y.flag) (sym is) ∙ flag)
