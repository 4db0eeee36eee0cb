-- The stores of values in their order, and what a view has seen of them.
use Rattle.std.proofs.Common.{◌≡◌, ◌≢◌, ℕ, ◌+◌, ◌<◌, ◌≤◌, true, false, List, [], ◌∷◌, ◌++◌, All, AllPairs, length, get_or, refl, sym, ap, ◌∙◌, subst, true≢false, append-nil, append_assoc, arith}
use Rattle.std.proofs.lemmas.List.{get_or_append_left, length-append}
use Rattle.std.proofs.lemmas.List.Elements.{All-append, All-cons, All-nil}
use Rattle.std.proofs.lemmas.List.Quantifiers.{all_pairs_push}
use Rattle.nm_edge.specs.Layouts.{Layout}
use Rattle.nm_model.specs.declared.event.Event.{Event}
use Rattle.nm_model.specs.Knowledge.{Knowledge, is_private}
use Rattle.nm_model.specs.Runs.{of}
use Rattle.nm_model.specs.Walks.{Entry}
use Rattle.nm_model.specs.Ordered.{ordered, after_in, trace_in}
use Rattle.nm_order.specs.Logs.{known_by, part_of}
use Rattle.nm_order.proofs.AnswersSince.{part-append}
use Rattle.nm_order.proofs.PartsOfRuns.{logs_tell}
use Rattle.nm_order.proofs.WalksOfRuns.{trace_in-append}
use Rattle.nm_steps.specs.declared.view.Stored.{Stored}
use Rattle.nm_steps.specs.declared.view.View.{View}
use Rattle.nm_steps.specs.Rules.{ComesBefore, ExtendsStores, LagsInStores, StoredBefore, WasHeld, WereHeld}
use Rattle.nm_steps.specs.Values.{HasSeenStores}
use Rattle.nm_steps.proofs.Valuing.{stores_more}

-- ---- lists

pub none_in_order : AllPairs ComesBefore []
none_in_order i j d lt within = absurd (omega (arith, within))

-- a beginning of stores in their order is in its order
pub order_of_first : (xs ys : List Stored) → AllPairs ComesBefore (xs ++ ys) → AllPairs ComesBefore xs
order_of_first xs ys h i j d lt within =
    let long = length-append xs ys in
    subst (λ (x : Stored). ComesBefore x (get_or xs j d)) (get_or_append_left xs ys d i (omega (arith, lt, within)))
    (subst (ComesBefore (get_or (xs ++ ys) i d)) (get_or_append_left xs ys d j within)
    (h i j d lt (omega (arith, within, long))))

-- a log that has grown
pub stored_longer : (w n m : ℕ) (st : List Stored) → n ≤ m → StoredBefore w n st → StoredBefore w m st
stored_longer w n m st le h k d below own = let less = h k d below own in omega (arith, le, less)

-- one store more, by a worker that has stored nothing after its last step
pub order_push : (st : List Stored) (x : Stored) → AllPairs ComesBefore st → All (λ (y : Stored). y.at ≤ x.at) st
    → StoredBefore x.worker x.own st → AllPairs ComesBefore (st ++ x ∷ [])
order_push st x order late own = all_pairs_push ComesBefore st x order (λ k d below. (late k d below, own k d below))

-- ---- stores of a run

none_first : (xs ys : List Entry) → xs ++ ys ≡ [] → xs ≡ []
none_first [] ys e = refl
none_first (x ∷ xs) ys e = cc

-- a later part is as long
pub part_longer : (L : Layout) (before since : List (ℕ × Event)) (w : ℕ)
    → part_of w (trace_in (ordered L) (before ++ since))
    ≡ part_of w (trace_in (ordered L) before) ++ part_of w (trace_in (after_in (ordered L) before) since)
part_longer L before since w = ap (part_of w) (trace_in-append (ordered L) before since)
    ∙ part-append w (trace_in (ordered L) before) (trace_in (after_in (ordered L) before) since)

module _ (L : Layout) (turns : List (ℕ × Event)) where
  part_of_before : (x : Stored) → (h : WasHeld L turns x) → (w : ℕ)
      → part_of w (trace_in (ordered L) turns) ≡ part_of w (trace_in (ordered L) h.before)
      ++ part_of w (trace_in (after_in (ordered L) h.before) h.since)
  part_of_before x h w = ap (λ (ts : List (ℕ × Event)). part_of w (trace_in (ordered L) ts)) h.is_run
      ∙ part_longer L h.before h.since w

  -- each store was made no later than now
  pub stored_by_now : (xs : List Stored) → WereHeld L turns xs → All (λ (x : Stored). x.at ≤ length turns) xs
  stored_by_now [] held = All-nil (λ (y : Stored). y.at ≤ length turns)
  stored_by_now (x ∷ xs) (h, hs) = All-cons (λ (y : Stored). y.at ≤ length turns) x xs first (stored_by_now xs hs)
    where
      first : x.at ≤ length turns
      first = let long = ap (λ (ts : List (ℕ × Event)). length ts) h.is_run ∙ length-append h.before h.since in
          let at = h.at in omega (arith, long, at)

  -- the worker's log had no more entries then
  pub stored_in_log : (w : ℕ) (log : List Entry) → part_of w (trace_in (ordered L) turns) ≡ log → (xs : List Stored)
      → WereHeld L turns xs → StoredBefore w (length log + 1) xs
  stored_in_log w log is [] held = All-nil (λ (y : Stored). y.worker ≡ w → y.own < length log + 1)
  stored_in_log w log is (x ∷ xs) (h, hs) = All-cons (λ (y : Stored). y.worker ≡ w → y.own < length log + 1) x xs
      first (stored_in_log w log is xs hs)
    where
      first : x.worker ≡ w → x.own < length log + 1
      first same =
          let whole = ap (λ (l : List Entry). length l)
          (sym is ∙ (ap (λ (u : ℕ). part_of u (trace_in (ordered L) turns)) (sym same)
          ∙ part_of_before x h x.worker)) ∙ length-append (part_of x.worker (trace_in (ordered L) h.before))
          (part_of x.worker (trace_in (after_in (ordered L) h.before) h.since)) in
          let own = h.own in omega (arith, whole, own)

  -- a worker that has taken no step has stored nothing
  pub stored_nothing : (w : ℕ) → w < L.workers → part_of w (trace_in (ordered L) turns) ≡ [] → (xs : List Stored)
      → WereHeld L turns xs → All (λ (x : Stored). x.worker ≢ w) xs
  stored_nothing w below is [] held = All-nil (λ (y : Stored). y.worker ≢ w)
  stored_nothing w below is (x ∷ xs) (h, hs) = All-cons (λ (y : Stored). y.worker ≢ w) x xs first
      (stored_nothing w below is xs hs)
    where
      first : x.worker ≢ w
      first same =
          let none' : part_of w (trace_in (ordered L) h.before)
          ≡ [] = none_first (part_of w (trace_in (ordered L) h.before))
          (part_of w (trace_in (after_in (ordered L) h.before) h.since)) (sym (part_of_before x h w) ∙ is) in
          let knows : of (after_in (ordered L) h.before).state w ≡ known_by L w [] = logs_tell L h.before w below
          ∙ ap (known_by L w) none' in
          true≢false (sym h.private ∙ (ap (λ (u : ℕ). is_private (of (after_in (ordered L) h.before).state u) x.slot)
          same ∙ ap (λ (k : Knowledge). is_private k x.slot) knows))

pub seen_stored : (v : View) → HasSeenStores v → StoredBefore v.number (length v.log + 1) v.stores
seen_stored v s = stored_in_log v.layout s.run.events v.number v.log
    (ap (part_of v.number) (sym s.run.are) ∙ s.run.is_part) v.stores s.held

-- ---- what a view has seen

pub stores_from_nothing : (st : List Stored) → ExtendsStores st []
stores_from_nothing st = record { more = st; is = refl }

-- a view that has heard of no stores
pub heard_nothing : (st : List Stored) (v : View) → v.heard_stores ≡ [] → ExtendsStores st v.heard_stores
heard_nothing st v unheard = record { more = st; is = ap (λ (l : List Stored). l ++ st) (sym unheard) }

-- the other view has the same worker, and has seen the same stores
pub record SameStores (v w : View) : Type 0 where
  pub stores : w.stores ≡ v.stores
  pub heard : w.heard_stores ≡ v.heard_stores
  pub number : w.number ≡ v.number
  pub resigned : w.resigned ≡ v.resigned

pub same_stores_then : (u v w : View) → SameStores u v → SameStores v w → SameStores u w
same_stores_then u v w first second = record {
  stores = second.stores ∙ first.stores;
  heard = second.heard
      ∙ first.heard;
  number = second.number ∙ first.number;
  resigned = second.resigned ∙ first.resigned;
}

pub lags_kept : (st : List Stored) (v w : View) → LagsInStores st v → SameStores v w → LagsInStores st w
lags_kept st v w h s = record {
  seen = record { more = h.seen.more; is = h.seen.is ∙ ap (λ (l : List Stored). l ++ h.seen.more) (sym s.stores) };
  own = λ alive. subst (λ (n : ℕ). All (λ (x : Stored). x.worker ≢ n) h.seen.more) (sym s.number)
      (h.own (sym s.resigned ∙ alive));
  heard = record { more = h.heard.more; is = h.heard.is ∙ ap (λ (l : List Stored). l ++ h.heard.more) (sym s.heard) };
}

-- a view that has heard of what another one has seen
pub lags_informed : (st : List Stored) (v u w : View) → LagsInStores st v → LagsInStores st u → w.stores ≡ v.stores
    → w.heard_stores ≡ u.stores → w.number ≡ v.number → w.resigned ≡ v.resigned → LagsInStores st w
lags_informed st v u w h other stores heard number resigned = record {
  seen = record { more = h.seen.more; is = h.seen.is ∙ ap (λ (l : List Stored). l ++ h.seen.more) (sym stores) };
  own = λ alive. subst (λ (n : ℕ). All (λ (x : Stored). x.worker ≢ n) h.seen.more) (sym number)
      (h.own (sym resigned ∙ alive));
  heard = record {
    more = other.seen.more;
    is = other.seen.is
        ∙ ap (λ (l : List Stored). l ++ other.seen.more) (sym heard);
  };
}

-- a view without a worker that has seen what another one has
pub lags_for_nobody : (st : List Stored) (v : View) → ExtendsStores st v.stores → v.heard_stores ≡ []
    → v.resigned ≡ true → LagsInStores st v
lags_for_nobody st v seen unheard spent = record {
  seen = seen;
  own = λ alive. absurd (true≢false (sym spent ∙ alive));
  heard = heard_nothing st v unheard;
}

-- a view that has seen them all
pub sees_all_stores : (st : List Stored) (v : View) → v.stores ≡ st → ExtendsStores st v.heard_stores
    → LagsInStores st v
sees_all_stores st v same heard = record {
  seen = record { more = []; is = sym same ∙ sym (append-nil v.stores) };
  own = λ alive. All-nil (λ (x : Stored). x.worker ≢ v.number);
  heard = heard;
}

-- one more, by another worker
pub lags_by_other : (st : List Stored) (v : View) (x : Stored) → (v.resigned ≡ false → x.worker ≢ v.number)
    → LagsInStores st v → LagsInStores (st ++ x ∷ []) v
lags_by_other st v x other h = record {
  seen = record {
    more = h.seen.more ++ x ∷ [];
    is = ap (λ (l : List Stored). l ++ x ∷ []) h.seen.is
        ∙ append_assoc v.stores h.seen.more (x ∷ []);
  };
  own = λ alive. All-append (λ (y : Stored). y.worker ≢ v.number) h.seen.more (x ∷ []) (h.own alive)
      (All-cons (λ (y : Stored). y.worker ≢ v.number) x [] (other alive)
      (All-nil (λ (y : Stored). y.worker ≢ v.number)));
  heard = stores_more st v.heard_stores x h.heard;
}

-- all stores of a view's worker were made before its log had so many entries, if those that it has
-- seen were
pub own_were_before : (st : List Stored) (v : View) (n : ℕ) → v.resigned ≡ false → LagsInStores st v
    → StoredBefore v.number n v.stores → StoredBefore v.number n st
own_were_before st v n alive h own =
    subst (StoredBefore v.number n) (sym h.seen.is)
    (All-append (λ (x : Stored). x.worker ≡ v.number → x.own < n) v.stores h.seen.more own
    (λ k d below same. absurd (h.own alive k d below same)))
