-- Values after the words of the core: a step of the core leaves them as they are.
use Rattle.std.proofs.Common.{◌≡◌, ◌≢◌, ◌⊎◌, inl, inr, ℕ, ◌≤◌, ◌==◌, false, cond, List, [], ◌∷◌, ◌++◌, length, refl, sym, ap, ◌∙◌, subst, arith, append-nil, append_assoc}
use Rattle.std.proofs.lemmas.List.Elements.{Contains-append_left}
use Rattle.std.specs.Prelude.{AllPairs, Contains}
use mathlib.Core.Option.{some}
use lib.ListN.{get_elem?}
use Rattle.nm_edge.specs.Layouts.{Layout, IsLayout}
use Rattle.nm_edge.specs.Words.{words}
use Rattle.nm_model.specs.declared.event.Event.{Event}
use Rattle.nm_model.specs.declared.event.Event.TheVariants.{Join, Link, Swap}
use Rattle.nm_order.specs.Logs.{part_of}
use Rattle.nm_model.specs.Knowledge.{Knowledge}
use Rattle.nm_model.specs.Runs.{State, start, of}
use Rattle.nm_model.specs.Ordered.{Configuration, ordered, after_in, trace_in}
use Rattle.nm_laws.proofs.Reachable.{layout_kept}
use Rattle.nm_order.proofs.OrderedLaws.{IsOrdered, each_ordered}
use Rattle.nm_steps.specs.Packing.{Fits, StateFits}
use Rattle.nm_steps.proofs.PackedEvents.{each_state_fits}
use Rattle.nm_steps.proofs.PackedReads.{each_field_has_a_word}
use Rattle.nm_steps.specs.declared.view.Stored.{Stored}
use Rattle.nm_steps.specs.declared.view.View.{View}
use Rattle.nm_steps.specs.Rules.{ComesBefore, ExtendsStores, IsShown, IsStored, LinkHasValue, HasValueFor, LinksHaveValues, new_leaf, Keeps, LagsBehind, LagsInStores, Runs, WasHeld, WereHeld, knowledge, once_below, stands, value_from}
use Rattle.std.specs.List.{sum_by}

-- ---- runs that go on

-- each new leaf has a store, in a table with values
abbrev pub IfValued : Layout → ℕ → List (ℕ × Event) → List Stored → Type 0
IfValued L slots turns st = (slots ≡ 0) ⊎ LinksHaveValues L turns st

-- these are stores of the run, in their order: each was in a private slot
pub record AreStoresOf (L : Layout) (slots : ℕ) (turns : List (ℕ × Event)) (st : List Stored) : Type 0 where
  pub held : WereHeld L turns st
  pub linked : IfValued L slots turns st
  pub order : AllPairs ComesBefore st

-- more turns, by which each new leaf still has a store
pub record Grows (L : Layout) (slots : ℕ) (st : List Stored) (turns more : List (ℕ × Event)) : Type 0 where
  pub rest : List (ℕ × Event)
  pub is : more ≡ turns ++ rest
  pub linked : IfValued L slots turns st → IfValued L slots more st

pub grown_none : (L : Layout) (slots : ℕ) (st : List Stored) (turns : List (ℕ × Event)) → Grows L slots st turns turns
grown_none L slots st turns = record { rest = []; is = sym (append-nil turns); linked = λ l. l }

pub grown_then : (L : Layout) (slots : ℕ) (st : List Stored) (a b c : List (ℕ × Event)) → Grows L slots st a b
    → Grows L slots st b c → Grows L slots st a c
grown_then L slots st a b c g h = record {
  rest = g.rest ++ h.rest;
  is = h.is ∙ (ap (λ (l : List (ℕ × Event)). l ++ h.rest) g.is ∙ append_assoc a g.rest h.rest);
  linked = λ l. h.linked (g.linked l);
}

-- the last turn of a run is split off
no_last : (before since : List (ℕ × Event)) (x : ℕ × Event) → [] ≡ before ++ x ∷ since → ⊥
no_last [] since x e = cc
no_last (a ∷ before) since x e = cc

pub last_or_earlier : (xs before since : List (ℕ × Event)) (x y : ℕ × Event) → xs ++ y ∷ [] ≡ before ++ x ∷ since
    → ((rest : List (ℕ × Event)) × (xs ≡ before ++ x ∷ rest)) ⊎ ((before ≡ xs) × (y ≡ x))
last_or_earlier [] [] since x y is = inr (refl, head is)
  where
    head : {a b : ℕ × Event} {p q : List (ℕ × Event)} → a ∷ p ≡ b ∷ q → a ≡ b
    head e = cc
last_or_earlier [] (b ∷ before) since x y is = absurd (no_last before since x (tail is))
  where
    tail : {a b : ℕ × Event} {p q : List (ℕ × Event)} → a ∷ p ≡ b ∷ q → p ≡ q
    tail e = cc
last_or_earlier (z ∷ xs) [] since x y is = inl (xs, ap (λ (a : ℕ × Event). a ∷ xs) (head is))
  where
    head : {a b : ℕ × Event} {p q : List (ℕ × Event)} → a ∷ p ≡ b ∷ q → a ≡ b
    head e = cc
last_or_earlier (z ∷ xs) (b ∷ before) since x y is = on (last_or_earlier xs before since x y (tail is))
  where
    head : {a b : ℕ × Event} {p q : List (ℕ × Event)} → a ∷ p ≡ b ∷ q → a ≡ b
    head e = cc

    tail : {a b : ℕ × Event} {p q : List (ℕ × Event)} → a ∷ p ≡ b ∷ q → p ≡ q
    tail e = cc

    on : ((rest : List (ℕ × Event)) × (xs ≡ before ++ x ∷ rest)) ⊎ ((before ≡ xs) × (y ≡ x))
        → ((rest : List (ℕ × Event)) × (z ∷ xs ≡ b ∷ (before ++ x ∷ rest))) ⊎ ((b ∷ before ≡ z ∷ xs) × (y ≡ x))
    on (inl s) = inl (s.0, λ i. head is i ∷ s.1 i)
    on (inr s) = inr ((λ i. sym (head is) i ∷ s.0 i), s.1)

pub still_stored : (st was : List Stored) (w own slot : ℕ) → ExtendsStores st was → IsStored was w own slot
    → IsStored st w own slot
still_stored st was w own slot h s = record {
  stored = s.stored;
  there = subst (λ (l : List Stored). Contains l s.stored) (sym h.is)
      (Contains-append_left was h.more s.stored s.there);
  by_worker = s.by_worker;
  at_own = s.at_own;
  for_slot = s.for_slot;
}

pub value_still : (k : Knowledge) (st was : List Stored) (w own : ℕ) (e : Event) → ExtendsStores st was
    → HasValueFor k was w own e → HasValueFor k st w own e
value_still k st was w own (Link p side leaf new) h s = still_stored st was w own (new_leaf k leaf new) h s
value_still k st was w own (Swap p side leaf new) h s = still_stored st was w own new h s
value_still k st was w own e h s = tt

pub still_linked : (L : Layout) (slots : ℕ) (turns : List (ℕ × Event)) (st was : List Stored) → ExtendsStores st was
    → IfValued L slots turns was → IfValued L slots turns st
still_linked L slots turns st was h (inl plain) = inl plain
still_linked L slots turns st was h (inr l) =
    inr (λ before since w e is. value_still (of (after_in (ordered L) before).state w) st was w _ e h
    (l before since w e is))

-- a table with values has some
pub all_linked : (L : Layout) (turns : List (ℕ × Event)) (values : List ℕ) (st : List Stored) → IsLayout L
    → length values ≡ L.nodes → IfValued L (length values) turns st → LinksHaveValues L turns st
all_linked L turns values st fits many (inl plain) = absurd
    (let least = fits.least in omega (arith, least, many, plain))
all_linked L turns values st fits many (inr l) = l

-- the same run, of the same words and of the same views
abbrev pub reworded : {L : Layout} {core new : List ℕ} {views : List View} → core ≡ new → Runs L core views
    → Runs L new views
reworded e r = record {
  fits = r.fits;
  turns = r.turns;
  keys = r.keys;
  words_are = sym e
      ∙ r.words_are;
  shown = r.shown;
  here = r.here;
  once = r.once;
  lags = r.lags;
}

abbrev pub reviewed : {L : Layout} {core : List ℕ} {views new : List View} → views ≡ new → Runs L core views
    → Runs L core new
reviewed {L} {core} {views} {new} e r = record {
  fits = r.fits;
  turns = r.turns;
  keys = r.keys;
  words_are = r.words_are;
  shown = subst (λ (vs : List View). (i : ℕ) (v : View) → get_elem? vs i ≡ some v
      → IsShown L (trace_in (ordered L) r.turns) v) e r.shown;
  here = subst (λ (vs : List View). (i : ℕ) (v : View) → get_elem? vs i ≡ some v → v.resigned ≡ false
      → (knowledge v).gone ≡ false) e r.here;
  once = subst (λ (vs : List View). (w : ℕ) → sum_by (stands w) vs ≡ once_below w L.workers) e r.once;
  lags = subst (λ (vs : List View). (i : ℕ) (v : View) → get_elem? vs i ≡ some v
      → LagsBehind (trace_in (ordered L) r.turns) v) e r.lags;
}

-- ---- stores that go on

pub stores_themselves : (st : List Stored) → ExtendsStores st st
stores_themselves st = record { more = []; is = sym (append-nil st) }

pub stores_more : (st was : List Stored) (x : Stored) → ExtendsStores st was → ExtendsStores (st ++ x ∷ []) was
stores_more st was x h = record {
  more = h.more ++ x ∷ [];
  is = ap (λ (l : List Stored). l ++ x ∷ []) h.is
      ∙ append_assoc was h.more (x ∷ []);
}

-- the same turn
abbrev pub IsPair : ℕ → Event → ℕ → Event → Type 0
IsPair w e u f = ◌≡◌ {A = ℕ × Event} (w, e) (u, f)

-- in a table with values
pub value_there : (slots : ℕ) (v : View) (e : Event) → slots ≢ 0 → LinkHasValue slots v e
    → HasValueFor (knowledge v) v.stores v.number (length v.log) e
value_there slots v (Link p side leaf new) other (inl plain) = absurd (other plain)
value_there slots v (Link p side leaf new) other (inr s) = s
value_there slots v (Swap p side leaf new) other (inl plain) = absurd (other plain)
value_there slots v (Swap p side leaf new) other (inr s) = s
value_there slots v e other has = tt

pub joined_links : (L : Layout) (slots : ℕ) (st : List Stored) (turns : List (ℕ × Event)) (w v : ℕ)
    → IfValued L slots turns st → IfValued L slots (turns ++ (w, Join v) ∷ []) st
joined_links L slots st turns w v (inl plain) = inl plain
joined_links L slots st turns w v (inr links) =
    inr (λ before since u e is. by before u e (last_or_earlier turns before since (u, e) (w, Join v) is))
  where
    by : (before : List (ℕ × Event)) (u : ℕ) (e : Event)
        → ((rest : List (ℕ × Event)) × (turns ≡ before ++ (u, e) ∷ rest)) ⊎ ((before ≡ turns) × IsPair w (Join v) u e)
        → HasValueFor (of (after_in (ordered L) before).state u) st u
        (length (part_of u (trace_in (ordered L) before))) e
    by before u e (inl earlier) = links before earlier.0 u e earlier.1
    by before u e (inr last) =
        subst (λ (t : ℕ × Event). HasValueFor (of (after_in (ordered L) before).state t.0) st t.0
        (length (part_of t.0 (trace_in (ordered L) before))) t.1) last.1 tt

pub held_longer : (L : Layout) (slots : ℕ) (st : List Stored) (turns more : List (ℕ × Event))
    → Grows L slots st turns more → (xs : List Stored) → WereHeld L turns xs → WereHeld L more xs
held_longer L slots st turns more g [] h = tt
held_longer L slots st turns more g (x ∷ xs) (h, hs) = (
  record {
    before = h.before;
    since = h.since ++ g.rest;
    is_run = g.is ∙ (ap (λ (l : List (ℕ × Event)). l ++ g.rest) h.is_run ∙ append_assoc h.before h.since g.rest);
    at = h.at;
    own = h.own;
    private = h.private;
  },
  held_longer L slots st turns more g xs hs,
)

pub held_push : (L : Layout) (turns : List (ℕ × Event)) (xs : List Stored) (x : Stored) → WereHeld L turns xs
    → WasHeld L turns x → WereHeld L turns (xs ++ x ∷ [])
held_push L turns [] x h last = (last, tt)
held_push L turns (y ∷ ys) x (h, hs) last = (h, held_push L turns ys x hs last)

-- the value after one store more
pub value_push : (was : ℕ) (xs : List Stored) (x : Stored) (s : ℕ)
    → value_from was (xs ++ x ∷ []) s ≡ cond (x.slot == s) x.value (value_from was xs s)
value_push was [] x s = refl
value_push was (y ∷ ys) x s = value_push (cond (y.slot == s) y.value was) ys x s

-- ---- the rule with other views

pub rewrap : (L : Layout) (ws : List ℕ) (count : ℕ) (views new : List View) (K : Keeps L ws count views)
    (r : Runs L K.core new) → Grows L count K.stores K.runs.turns r.turns
    → ((i : ℕ) (u : View) → get_elem? new i ≡ some u → LagsInStores K.stores u) → Keeps L ws count new
rewrap L ws count views new K r grows seen = record {
  core = K.core;
  values = K.values;
  words_are = K.words_are;
  long = K.long;
  runs = r;
  stores = K.stores;
  valued = record {
    are = K.valued.are;
    held = held_longer L count K.stores K.runs.turns r.turns grows K.stores K.valued.held;
    linked = subst (λ (n : ℕ). IfValued L n r.turns K.stores) (sym K.long)
        (grows.linked (subst (λ (n : ℕ). IfValued L n K.runs.turns K.stores) K.long K.valued.linked));
    order = K.valued.order;
    seen = seen;
  };
}

-- ---- as many words as the layout says

module _ (L : Layout) (core : List ℕ) (views : List View) (k : Runs L core views) where
  abbrev c : Configuration
  c = after_in (ordered L) k.turns

  enough : 5 ≤ L.nodes
  enough = let least = k.fits.least in omega arith

  o : IsOrdered L c
  o = each_ordered L enough k.turns k.keys

  layout_is : c.state.layout ≡ L
  layout_is = ap (λ (s : State). s.layout) o.leads ∙ layout_kept (start L) o.events

  pub run_fits : Fits L c.state.memory
  run_fits = subst (λ (l : Layout). Fits l c.state.memory) layout_is
      (subst StateFits (sym o.leads) (each_state_fits L enough o.events))

  pub run_long : length core ≡ words L
  run_long = ap (λ (l : List ℕ). length l) k.words_are ∙ each_field_has_a_word L c.state.memory run_fits
