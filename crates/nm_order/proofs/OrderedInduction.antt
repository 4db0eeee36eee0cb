-- What the opening of an ordered core has, and each event that is in order keeps, every ordered run
-- keeps.
use Rattle.std.proofs.Common.{◌≡◌, ℕ, suc, ◌≤◌, List, [], ◌∷◌, replicate, refl, sym, ap, subst, ◌∙◌, arith}
use Rattle.std.specs.Prelude.{Option, Some, None, option_map, All}
use Rattle.std.proofs.lemmas.Option.{none-some, same_Some}
use Rattle.nm_edge.specs.Layouts.{Layout}
use Rattle.nm_model.specs.declared.event.Event.{Event}
use Rattle.nm_model.specs.declared.reply.Refused.{Refused}
use Rattle.nm_model.specs.Maps.{or_else}
use Rattle.nm_model.specs.Runs.{State, of, start, refused, reply_of, applied}
use Rattle.nm_model.specs.Lawful.{EachBirthStands}
use Rattle.nm_model.specs.Searches.{Search, idle}
use Rattle.nm_model.specs.Ordered.{Configuration, ordered, search_of, learned_from, disorder, disorder_in, disorder_among, refused_in, applied_in, next_in, after_in}
use Rattle.nm_laws.proofs.Steps.{Allowed, allowed}
use Rattle.nm_laws.proofs.TreeSteps.{Lawful}
use Rattle.nm_laws.proofs.KnownBirths.{each_birth_stands}
use Rattle.nm_laws.proofs.Configurations.{refused_next, allowed_next, allowed_by_state}
use Rattle.nm_order.specs.Intervals.{HasKey}
use Rattle.nm_order.proofs.OrderedSteps.{OrderLaw}
use Rattle.nm_order.proofs.OrderedLaws.{IsOrdered, ordered_next, each_ordered, law_of_state}

-- what a configuration allows is in order
in_order : (c : Configuration) (w : ℕ) (e : Event) → refused_in c w e ≡ None → disorder_in c w e ≡ None
unfolding refused_in
in_order c w e = go (refused c.state w e) (disorder_in c w e)
  where
    go : (o d : Option Refused) → or_else o d ≡ None → d ≡ None
    go None d is = is
    go (Some r) d is = absurd (none-some r (sym is))

-- the births of every run stand in a state to which an ordered run led
pub births_of : (L : Layout) → 5 ≤ L.nodes → (c : Configuration) → IsOrdered L c → EachBirthStands c.state
births_of L enough c o = subst (λ (s : State). EachBirthStands s) (sym o.leads) (each_birth_stands L enough o.events)

-- an event that is allowed and in order keeps it
abbrev pub IsKept : (State → List Search → Type 0) → Type 0
IsKept P = (s : State) (h : ℕ → ℕ) (law : Lawful s h) (w : ℕ) → EachBirthStands s → (ss : List Search)
    → OrderLaw s ss → P s ss → (e : Event) → Allowed s w e → disorder s.layout (of s w) (search_of ss w) e ≡ None
    → HasKey e
    → P (applied s w e) (learned_from ss w e (reply_of s w e))

-- of a configuration with its searches
abbrev pub OfSearches : (State → List Search → Type 0) → Configuration → Type 0
OfSearches P c = (ss : List Search) → c.searches ≡ Some ss → P c.state ss

module _ (P : State → List Search → Type 0) (step : IsKept P) (L : Layout) (enough : 5 ≤ L.nodes) where
  on_applied : (c : Configuration) (t : ℕ × Event) → HasKey t.1 → IsOrdered L c → OfSearches P c
      → refused_in c t.0 t.1 ≡ None → OfSearches P (applied_in c t.0 t.1)
  unfolding applied_in
  on_applied c t has o kept is ss are =
      let l = law_of_state L enough c o in
      subst (λ (ss : List Search). P (applied c.state t.0 t.1) ss)
      (same_Some (learned_from o.searches t.0 t.1 (reply_of c.state t.0 t.1)) ss
      (sym (ap (option_map (λ ss. learned_from ss t.0 t.1 (reply_of c.state t.0 t.1))) o.are) ∙ are))
      (step c.state l.0 l.1 t.0 (births_of L enough c o) o.searches o.law (kept o.searches o.are) t.1
      (allowed c.state t.0 t.1 (allowed_by_state c t.0 t.1 is))
      (ap (λ ss. disorder_among c.state.layout ss (of c.state t.0) t.0 t.1) (sym o.are) ∙ in_order c t.0 t.1 is) has)

  on_next : (c : Configuration) (t : ℕ × Event) → HasKey t.1 → IsOrdered L c → OfSearches P c
      → OfSearches P (next_in c t)
  on_next c t has o kept = go (refused_in c t.0 t.1) refl
    where
      go : (r : Option Refused) → refused_in c t.0 t.1 ≡ r → OfSearches P (next_in c t)
      go (Some r) is = subst (OfSearches P) (sym (refused_next c t r is)) kept
      go None is = subst (OfSearches P) (sym (allowed_next c t is)) (on_applied c t has o kept is)

  after_turns : (turns : List (ℕ × Event)) → All (λ t. HasKey t.1) turns → (c : Configuration) → IsOrdered L c
      → OfSearches P c → OfSearches P (after_in c turns)
  unfolding after_in
  after_turns [] keys c o kept = kept
  after_turns (t ∷ ts) keys c o kept = after_turns ts (λ i d below. keys (suc i) d (omega arith)) (next_in c t)
      (ordered_next L enough c t (keys 0 t (omega arith)) o) (on_next c t (keys 0 t (omega arith)) o kept)

  pub each_run_keeps : P (start L) (replicate L.workers idle) → (turns : List (ℕ × Event))
      → All (λ t. HasKey t.1) turns → OfSearches P (after_in (ordered L) turns)
  unfolding after_in
  each_run_keeps first turns keys = after_turns turns keys (ordered L)
      (each_ordered L enough [] (λ i d below. absurd (omega (arith, below))))
      (λ ss are. subst (P (start L)) (same_Some (replicate L.workers idle) ss are) first)
