-- What the steps that make nodes ask and leave.
use Rattle.std.proofs.Common.{◌≡◌, ◌≢◌, ℕ, ◌+◌, ◌≤◌, eqb, Bool, true, false, true≢false, not, ◌&&◌, ◌||◌, List, [], ◌∷◌, length, refl, sym, ap, subst, ◌∙◌}
use Rattle.std.specs.Prelude.{Option, Some, None, IsSome, is_some, is_none, unwrap_or, nat_lt}
use Rattle.std.proofs.lemmas.List.{length-append}
use Rattle.std.proofs.lemmas.Bool.{le-ltb, cond-true, cond-false, eq-eqb, ne_eqb}
use Rattle.nm_edge.specs.Layouts.{Layout, IsLayout}
use Rattle.nm_edge.specs.declared.edge.Side.{Side}
use Rattle.nm_model.specs.declared.event.Event.{Event}
use Rattle.nm_model.specs.declared.event.Event.TheVariants.{Fill}
use Rattle.nm_model.specs.declared.event.Field.{Field}
use Rattle.nm_model.specs.declared.event.Field.TheVariants.{Key as KeyOf, Edge as EdgeOn}
use Rattle.nm_model.specs.declared.knowledge.Draft.{Draft}
use Rattle.nm_model.specs.declared.knowledge.Seen.{Seen}
use Rattle.nm_model.specs.declared.reply.Refused.TheVariants.{NoSlot, NotPrivate, NotReady}
use Rattle.nm_model.specs.declared.reply.Reply.{Reply}
use Rattle.nm_model.specs.declared.reply.Reply.TheVariants.{Filled}
use Rattle.nm_model.specs.Knowledge.{Knowledge, unfilled, is_private, read, seen_of, knows_leaf}
use Rattle.nm_model.specs.Learning.{filled_in}
use Rattle.nm_model.specs.Maps.{get, put, without, has}
use Rattle.nm_model.specs.Ordered.{ordered, after_in, trace_in}
use Rattle.nm_model.specs.Searches.{Search, idle, searched}
use Rattle.nm_model.specs.Step.{refusal, outside}
use Rattle.nm_model.specs.Walks.{Entry, search_after}
use Rattle.nm_laws.proofs.Learned.{learn_filled}
use Rattle.nm_model.proofs.Tables.{Ascends, get-without}
use Rattle.nm_order.specs.Facts.{Fact, HoldsIn}
use Rattle.nm_order.specs.Facts.Fact.{IsPinned, KnowsSlot, KnowsLeaf, IsTagged, IsFlagged, IsFrozen, IsBorn, CallIs, Came, ReadKey, EndedAt}
use Rattle.nm_order.specs.Hands.{IsPooled}
use Rattle.nm_order.specs.Logs.{part_of, known_by, IsLogOf}
use Rattle.nm_order.proofs.LastEntries.{ToldBy, told_by_part, search_more}
use Rattle.nm_order.proofs.OrderedLaws.{law_of_state}
use Rattle.nm_steps.specs.Rules.{ExtendsStores, HasNotStored, StoredBefore, knowledge}
use Rattle.nm_steps.specs.Steps.{PassView, MayStep, Stepped, IsSamePass, HasSeenAllOf}
use Rattle.nm_steps.proofs.AfterSteps.{TellsRun, run_after, is_join}
use Rattle.nm_steps.proofs.StoreOrders.{stored_longer}
use Rattle.nm_walks.specs.Telling.{IsInRun, GoesOn}
use Rattle.nm_walks.specs.Making.{draft, IsFilled, KeepsOtherSlots, OnlyMakes, with_node}
use Rattle.nm_model.proofs.Checks.{not_outside, passes_then}
use Rattle.nm_steps.proofs.Presence.{known_after_step}
use Rattle.nm_pool.proofs.PrivateSlots.{put_another, put_there}

-- ---- drafts

pub get_draft : (p : PassView) (s : ℕ) (d : Draft) → get (knowledge p.view).drafts s ≡ Some d → draft p s ≡ d
get_draft p s d is = ap (λ o. unwrap_or o unfilled) is

pub same_draft : (p q : PassView) (s : ℕ) → get (knowledge q.view).drafts s ≡ get (knowledge p.view).drafts s
    → draft q s ≡ draft p s
same_draft p q s is = ap (λ o. unwrap_or o unfilled) is

pub private_from_birth : (p : PassView) (s : ℕ) → IsSome (draft p s).birth → is_private (knowledge p.view) s ≡ true
private_from_birth p s born = go (get (knowledge p.view).drafts s) born
  where
    go : (o : Option Draft) → is_some (unwrap_or o unfilled).birth ≡ true → is_some o ≡ true
    go None h = absurd (true≢false (sym h))
    go (Some d) h = refl

-- private slots stand in order
pub drafts_ascend : (L : Layout) → 5 ≤ L.nodes → (w : ℕ) (log : List Entry) → IsLogOf L w log
    → Ascends (known_by L w log).drafts
drafts_ascend L low w log l = go (told_by_part L low w l.worker l.turns l.keys)
  where
    go : ToldBy L w (part_of w (trace_in (ordered L) l.turns)) (after_in (ordered L) l.turns)
        → Ascends (known_by L w log).drafts
    go told =
        let law = law_of_state L low (after_in (ordered L) l.turns) told.is_ordered in
        subst (λ (x : Knowledge). Ascends x.drafts) (told.knows ∙ ap (known_by L w) l.is_part) (law.1.drafts w)

-- what a map has without a slot, and what it has at another than one that is taken out or put in
pub without_it : (m : List (ℕ × Draft)) (s : ℕ) → Ascends m → get (without m s) s ≡ None
without_it m s order = get-without m s s order ∙ cond-true (eqb s s) None (get m s) (eq-eqb s s refl)

pub without_another : (m : List (ℕ × Draft)) (s x : ℕ) → Ascends m → x ≢ s → get (without m s) x ≡ get m x
without_another m s x order ne = get-without m s x order ∙ cond-false (eqb x s) None (get m x) (ne_eqb x s ne)

-- ---- steps on private slots leave every fact

held_still : (k l : Knowledge) (s t : Search) → l.brief ≡ k.brief → l.known ≡ k.known → t ≡ s → (fact : Fact)
    → HoldsIn k s fact → HoldsIn l t fact
held_still k l s t brief known search (IsPinned epoch) h = ap (λ b. b.pin) brief ∙ h
held_still k l s t brief known search (KnowsSlot x) h = ap (λ (m : List (ℕ × Seen)). has m x) known ∙ h
held_still k l s t brief known search (KnowsLeaf x) h = ap
    (λ (m : List (ℕ × Seen)). knows_leaf (record k { known = m }) x) known ∙ h
held_still k l s t brief known search (IsTagged x d to) h =
    (h.0, ap (λ (m : List (ℕ × Seen)). read (record k { known = m }) x d) known ∙ h.1, h.2, h.3)
held_still k l s t brief known search (IsFlagged x d to) h =
    (h.0, ap (λ (m : List (ℕ × Seen)). read (record k { known = m }) x d) known ∙ h.1, h.2, h.3)
held_still k l s t brief known search (IsFrozen x d e) h =
    (ap (λ (m : List (ℕ × Seen)). read (record k { known = m }) x d) known ∙ h.0, h.1)
held_still k l s t brief known search (IsBorn x b) h = ap
    (λ (m : List (ℕ × Seen)). (seen_of (record k { known = m }) x).birth) known ∙ h
held_still k l s t brief known search (CallIs op key) h = ap (λ (x : Search). x.call) search ∙ h
held_still k l s t brief known search (Came since key x p d) h = subst
    (λ (y : Search). HoldsIn k y (Came since key x p d)) (sym search) h
held_still k l s t brief known search (ReadKey since key x p d v) h = subst
    (λ (y : Search). HoldsIn k y (ReadKey since key x p d v)) (sym search) h
held_still k l s t brief known search (EndedAt since key x p d v) h = subst
    (λ (y : Search). HoldsIn k y (EndedAt since key x p d v)) (sym search) h

pub makes_go_on : (p q : PassView) → OnlyMakes p q → IsSamePass p q → HasSeenAllOf q p
    → ExtendsStores q.view.stores p.view.stores → IsInRun q → GoesOn p q
makes_go_on p q only same past stored run = record {
  same = same;
  past = past;
  run = run;
  stores = stored;
  keeps = held_still (knowledge p.view) (knowledge q.view) (search_after idle p.view.log)
      (search_after idle q.view.log) only.epochs only.known only.search;
}

-- the pass is in a run after a step, since its log does not end with a join
pub in_run_after : (p q : PassView) (e : Event) (r : Reply) → Stepped p q e r → is_join e ≡ false
    → IsLayout q.view.layout → TellsRun q → IsInRun q
in_run_after p q e r step other fits tells = record {
  fits = fits;
  run = run_after p q e r
      (ap (λ (s : PassView). s.view.log) step) other tells;
}

pub both_make : (p q r : PassView) → OnlyMakes p q → OnlyMakes q r → OnlyMakes p r
both_make p q r a b = record {
  epochs = b.epochs ∙ a.epochs;
  known = b.known ∙ a.known;
  ledgers = b.ledgers
      ∙ a.ledgers;
  search = b.search ∙ a.search;
}

pub search_then : (p q : PassView) (e : Event) (r : Reply) → Stepped p q e r
    → search_after idle q.view.log ≡ searched (search_after idle p.view.log) e r
search_then p q e r step = ap (λ (s : PassView). search_after idle s.view.log) step ∙ search_more idle p.view.log (e, r)

-- a step that changes drafts alone
pub makes : (p q : PassView) (m : List (ℕ × Draft)) → knowledge q.view ≡ record (knowledge p.view) { drafts = m }
    → search_after idle q.view.log ≡ search_after idle p.view.log → OnlyMakes p q
makes p q m is search = record {
  epochs = ap (λ (x : Knowledge). x.brief) is;
  known = ap (λ (x : Knowledge). x.known) is;
  ledgers = ap (λ (x : Knowledge). x.ledgers) is;
  search = search;
}

-- ---- filling a slot

-- a step makes the log longer
pub log_longer : (p q : PassView) (e : Event) (r : Reply) → Stepped p q e r → length q.view.log ≡ length p.view.log + 1
log_longer p q e r step = ap (λ (z : PassView). length z.view.log) step ∙ length-append p.view.log ((e, r) ∷ [])

-- after a step the worker has stored no value, if it stores none on the way
pub not_stored_after : (p q : PassView) → IsSamePass p q → length p.view.log + 1 ≤ length q.view.log
    → q.view.stores ≡ p.view.stores → StoredBefore p.view.number (length p.view.log + 1) p.view.stores
    → HasNotStored q.view
not_stored_after p q is longer same h =
    subst (StoredBefore q.view.number (length q.view.log)) (sym same)
    (subst (λ (z : PassView). StoredBefore z.view.number (length q.view.log) p.view.stores) (sym is)
    (stored_longer p.view.number (length p.view.log + 1) (length q.view.log) p.view.stores longer h))

-- a private slot whose birth is stored
pub record Fillable (p : PassView) (s : ℕ) : Type 0 where
  pub least : 6 ≤ s
  pub most : s ≤ p.view.layout.nodes
  pub born : IsSome (draft p s).birth

pub fillable : (p : PassView) (s : ℕ) → IsSome (draft p s).birth
    → ((x : ℕ) → is_private (knowledge p.view) x ≡ true → IsPooled p.view.layout x) → Fillable p s
fillable p s born pooled = let range = pooled s (private_from_birth p s born) in
    record { least = range.0; most = range.1; born = born }

not_none : {X : Type 0} (o : Option X) → is_some o ≡ true → is_none o ≡ false
not_none None h = sym h
not_none (Some x) h = refl

module _ (p : PassView) (s : ℕ) (f : Fillable p s) where
  own : is_private (knowledge p.view) s ≡ true
  own = private_from_birth p s f.born

  pub may_fill_key : (key : ℕ) → MayStep p (Fill s KeyOf key)
  unfolding refusal
  may_fill_key key = record {
    looked = tt;
    allowed = λ m h. passes_then (outside 6 p.view.layout.nodes s || false) NoSlot _
        (ap (λ (x : Bool). x || false) (not_outside 6 p.view.layout.nodes s f.least f.most))
        (passes_then (not (is_private (knowledge p.view) s)) NotPrivate _ (ap not own)
        (passes_then (is_none (draft p s).birth) NotReady _ (not_none (draft p s).birth f.born) refl));
    ordered = refl;
    births = tt;
    key = tt;
  }

  pub may_fill_edge : (side : Side) (child : ℕ) → child ≤ p.view.layout.nodes → MayStep p (Fill s (EdgeOn side) child)
  unfolding refusal
  may_fill_edge side child within = record {
    looked = tt;
    allowed = λ m h. passes_then (outside 6 p.view.layout.nodes s || (true && nat_lt p.view.layout.nodes child))
        NoSlot _
        (ap (λ (x : Bool). x || nat_lt p.view.layout.nodes child)
        (not_outside 6 p.view.layout.nodes s f.least f.most) ∙ le-ltb p.view.layout.nodes child within)
        (passes_then (not (is_private (knowledge p.view) s)) NotPrivate _ (ap not own)
        (passes_then (is_none (draft p s).birth) NotReady _ (not_none (draft p s).birth f.born) refl));
    ordered = refl;
    births = tt;
    key = tt;
  }

module _ (p q : PassView) (s : ℕ) (f : Field) (v : ℕ) (step : Stepped p q (Fill s f v) Filled) where
  filled_known : knowledge q.view ≡ record (knowledge p.view)
      { drafts = put (knowledge p.view).drafts s (filled_in (draft p s) f v) }
  filled_known = known_after_step p q (Fill s f v) Filled step ∙ learn_filled p.view.number (knowledge p.view) s f v

  pub filled_there : get (knowledge q.view).drafts s ≡ Some (filled_in (draft p s) f v)
  filled_there =
      ap (λ (k : Knowledge). get k.drafts s) filled_known
      ∙ put_there (knowledge p.view).drafts s (filled_in (draft p s) f v)

  pub filled_draft : draft q s ≡ filled_in (draft p s) f v
  filled_draft = get_draft q s (filled_in (draft p s) f v) filled_there

  pub filled_others : KeepsOtherSlots s p q
  filled_others x ne =
      ap (λ (k : Knowledge). get k.drafts x) filled_known
      ∙ put_another (knowledge p.view).drafts s (filled_in (draft p s) f v) x ne

  pub only_filled : OnlyMakes p q
  unfolding searched
  only_filled = makes p q _ filled_known (search_then p q (Fill s f v) Filled step)

  -- it can be filled still, where its birth is as it was
  pub fillable_still : (filled_in (draft p s) f v).birth ≡ (draft p s).birth → Fillable p s → Fillable q s
  fillable_still same had = record {
    least = had.least;
    most = subst (λ (x : PassView). s ≤ x.view.layout.nodes) (sym step) had.most;
    born = ap (λ (d : Draft). is_some d.birth) filled_draft ∙ (ap is_some same ∙ had.born);
  }

-- the slot is filled, with the birth that it has
pub is_filled : (p q : PassView) (s birth key left right : ℕ) → (draft p s).birth ≡ Some birth
    → get (knowledge q.view).drafts s ≡ Some (with_node (draft p s) key left right) → IsFilled q s birth key left right
is_filled p q s birth key left right born is =
    let d : draft q s ≡ with_node (draft p s) key left right = get_draft q s (with_node (draft p s) key left right)
    is in
    record {
      has_birth = ap (λ (x : Draft). x.birth) d ∙ born;
      has_key = ap (λ (x : Draft). x.key) d;
      has_left = ap (λ (x : Draft). x.left) d;
      has_right = ap (λ (x : Draft). x.right) d;
    }

-- and is so after a step that leaves it
pub is_filled_still : (p q : PassView) (s birth key left right : ℕ)
    → get (knowledge q.view).drafts s ≡ get (knowledge p.view).drafts s → IsFilled p s birth key left right
    → IsFilled q s birth key left right
is_filled_still p q s birth key left right same f =
    let d : draft q s ≡ draft p s = same_draft p q s same in
    record {
      has_birth = ap (λ (x : Draft). x.birth) d ∙ f.has_birth;
      has_key = ap (λ (x : Draft). x.key) d ∙ f.has_key;
      has_left = ap (λ (x : Draft). x.left) d ∙ f.has_left;
      has_right = ap (λ (x : Draft). x.right) d ∙ f.has_right;
    }
