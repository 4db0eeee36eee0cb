-- Of the walks of a call: those since the flag keep the law of the others, and where a walk has
-- ended its worker knows a leaf.
use Rattle.std.proofs.Common.{◌≡◌, ◌≢◌, ℕ, inl, inr, eqb, ◌==◌, Bool, true, false, cond, ◌&&◌, ◌||◌, List, [], ◌∷◌, ◌++◌, map, refl, sym, ap, subst, ◌∙◌, arith, true≢false, get_or-set_same, get_or-set_other}
use Rattle.std.specs.Prelude.{Option, Some, None, slice_get, is_none}
use Rattle.std.specs.List.{list_any}
use native.Mathlib.Decide.{ℕ_discrete}
use Rattle.std.proofs.lemmas.Bool.{cond_both, eqb-true, eq-eqb, and_parts, or_left, and_from}
use Rattle.std.proofs.lemmas.Option.{none-some}
use Rattle.nm_edge.specs.declared.edge.Side.{Side}
use Rattle.nm_edge.specs.declared.edge.Side.TheVariants.{Left, Right}
use Rattle.nm_edge.specs.declared.node.NodeId.{NodeId}
use Rattle.nm_model.specs.declared.event.Field.{Field}
use Rattle.nm_model.specs.declared.event.Field.TheVariants.{Key, Edge as EdgeOn, Birth}
use Rattle.nm_model.specs.declared.event.Event.{Event}
use Rattle.nm_model.specs.declared.event.Event.TheVariants.{Look, Join}
use Rattle.nm_model.specs.declared.reply.Reply.{Reply}
use Rattle.nm_model.specs.declared.reply.Reply.TheVariants.{EdgeIs}
use Rattle.nm_model.specs.declared.arrivals.Call.{Call}
use Rattle.nm_model.specs.declared.arrivals.Arrival.{Arrival}
use Rattle.nm_model.specs.Memory.{Memory, child, edge}
use Rattle.nm_model.specs.Knowledge.{Knowledge, knows, is_private, read, is_null, knows_leaf}
use Rattle.nm_model.specs.Learning.{learn, look_known, look_private, read_edge}
use Rattle.nm_model.specs.Step.{reply, write}
use Rattle.nm_model.specs.Runs.{State, of, reply_of, applied}
use Rattle.nm_model.specs.Searches.{Search, idle, searched, keyed, ended, goes_on, is_first, is_by, turns, new_arrival, with_arrival, walked, look_for, later_walked}
use Rattle.nm_model.specs.Walks.{begins_anew}
use Rattle.nm_model.specs.Ordered.{search_of, learned_from, disorder}
use Rattle.nm_model.specs.Lawful.{EachBirthStands}
use Rattle.nm_model.proofs.Lists.{mapped_at, more_at}
use Rattle.nm_laws.proofs.Steps.{Allowed}
use Rattle.nm_laws.proofs.TreeSteps.{Lawful}
use Rattle.nm_laws.proofs.Views.{read_after}
use Rattle.nm_laws.proofs.Trees.{same_side-refl}
use Rattle.nm_laws.proofs.SearchesGrow.{begun_is, search_goes}
use Rattle.nm_order.specs.Intervals.{HasKey, key}
use Rattle.nm_order.specs.Facts.{Since, arrivals}
use Rattle.nm_order.specs.Facts.Since.{ThePin, TheFlag}
use Rattle.nm_order.proofs.TreeChanges.{tree_change}
use Rattle.nm_order.proofs.SearchSteps.{StillKnown}
use Rattle.nm_order.specs.Logs.{takes_part}
use Rattle.nm_order.proofs.PartsOfRuns.{partaking, apart}
use Rattle.nm_order.proofs.LastEntries.{PartOf, part_or}
use Rattle.nm_order.proofs.LastEntries.PartOf.{Own, Resigns}
use Rattle.nm_order.proofs.OrderedWalks.{WalkLaw, no_walks, walks_last}
use Rattle.nm_order.proofs.OrderedChanges.{FixedKeys, Outlasts, outlasts}
use Rattle.nm_order.proofs.OrderedSteps.{ForCall, OrderLaw, known_not_private, look_law, last, asks_order, order_step}
use Rattle.nm_order.proofs.KnowledgeStays.{Stays, NullsStand, itself, learned_stays, leaf_stays, answers}

-- ---- how a search goes on while its pin stands

pub data GoesOn (s : Search) (e : Event) (r : Reply) (t : Search) : Type 0 where
  Same : t.call ≡ s.call → t.walks ≡ s.walks → t.later ≡ s.later → GoesOn s e r t
  Looked : (x : ℕ) (f : Field) → e ≡ Look x f → t ≡ look_for s s.call x f r → GoesOn s e r t

pub goes_on_so : (s : Search) (e : Event) (r : Reply) → begins_anew (e, r) ≡ false → GoesOn s e r (searched s e r)
goes_on_so s = search_goes (GoesOn s) s (λ x f r. Looked x f refl refl) (λ p side leaf new n. Same refl refl refl)
    (λ p side leaf n. Same refl refl refl)
    (λ a side x p keep ns. Same refl refl refl) (λ p side leaf new ns. Same refl refl refl) (λ e r. Same refl refl refl)

-- where a pin begins or ends there are no walks
pub begun_anew : (s : Search) (e : Event) (r : Reply) → begins_anew (e, r) ≡ true → (since : Since)
    → arrivals (searched s e r) since ≡ []
begun_anew s e r anew ThePin = ap (λ (t : Search). t.walks) (begun_is s e r anew)
begun_anew s e r anew TheFlag = ap (λ (t : Search). t.later) (begun_is s e r anew)

-- ---- what is kept of each worker's walks

-- where a walk has ended, its worker knows a leaf
abbrev pub EndsAtLeaves : Knowledge → List Arrival → Type 0
EndsAtLeaves k ws = (i : ℕ) (a : Arrival) → slice_get ws i ≡ Some a → a.ended ≡ true → knows_leaf k a.slot ≡ true

pub record WalksKept (s : State) (ss : List Search) (u : ℕ) : Type 0 where
  pub law : (since : Since) → ForCall s.layout.radix s.memory (knows (of s u)) (search_of ss u).call
      (arrivals (search_of ss u) since)
  pub ends : (since : Since) → EndsAtLeaves (of s u) (arrivals (search_of ss u) since)

-- ---- one event

-- no worker but the one that begins or leaves a pin knows less
pub others_stay : (s : State) (h : ℕ → ℕ) (law : Lawful s h) (w : ℕ) (e : Event) → Allowed s w e → (u : ℕ) → u ≢ w
    → Stays s.memory (of s u) (of (applied s w e) u)
others_stay s h law w e ok u ne = go (takes_part u w e) refl
  where
    go : (b : Bool) → takes_part u w e ≡ b → Stays s.memory (of s u) (of (applied s w e) u)
    go false none = subst (Stays s.memory (of s u)) (sym (apart s law.staffed w u e ok none)) (itself s.memory (of s u))
    go true takes = subst (Stays s.memory (of s u)) (sym (partaking s law.staffed w u e ok takes))
        (by (part_or u w e takes))
      where
        by : PartOf u w e → Stays s.memory (of s u) (learn u (of s u) e (reply_of s w e))
        by (Own is) = absurd (ne (sym is))
        by (Resigns v is) = subst (λ (x : Event). Stays s.memory (of s u) (learn u (of s u) x (reply_of s w x)))
            (sym is) (learned_stays s.memory (of s u) u (Join v) (reply_of s w (Join v)) tt refl)

-- a worker learns what its event is answered
pub own_knows : (s : State) (h : ℕ → ℕ) (law : Lawful s h) (w : ℕ) (e : Event) → Allowed s w e
    → of (applied s w e) w ≡ learn w (of s w) e (reply_of s w e)
own_knows s h law w e ok = partaking s law.staffed w w e ok (or_left (w == w) _ (eq-eqb w w refl))

module _ (s : State) (h : ℕ → ℕ) (law : Lawful s h) (w : ℕ) where
  nulls_stand : (u : ℕ) → NullsStand s.memory (of s u)
  nulls_stand u = law.tree.null_read u

  ends_stay : (u : ℕ) (l : Knowledge) → Stays s.memory (of s u) l → (ws : List Arrival) → EndsAtLeaves (of s u) ws
      → EndsAtLeaves l ws
  ends_stay u l stays ws ends i a at is = leaf_stays s.memory (of s u) l (nulls_stand u) stays a.slot (ends i a at is)

  -- a look at a null edge of a known slot makes it known as a leaf
  pub null_looked : (x : ℕ) (d : Side) → knows (of s w) x ≡ true → child s.memory x d ≡ 0
      → knows_leaf (learn w (of s w) (Look x (EdgeOn d)) (reply_of s w (Look x (EdgeOn d)))) x ≡ true
  unfolding reply learn
  null_looked x d known null = cond_both (is_private (of s w) x)
      (look_private (of s w) x (EdgeOn d) (EdgeIs (edge s.memory x d)))
      (look_known (of s w) x (EdgeOn d) (EdgeIs (edge s.memory x d))) (λ l. knows_leaf l x ≡ true)
      (λ own. absurd (true≢false (sym own ∙ known_not_private s h law w x known)))
      (λ _. by d (is_read d) null)
    where
      is_read : (d : Side) → read (read_edge (of s w) x d (edge s.memory x d)) x d ≡ Some (edge s.memory x d)
      is_read d = read_after (of s w) x d (edge s.memory x d) x d
          ∙ ap (λ (b : Bool). cond b (Some (edge s.memory x d)) (read (of s w) x d))
          (and_from (eqb x x) _ (eq-eqb x x refl) (same_side-refl d))

      by : (d : Side) → read (read_edge (of s w) x d (edge s.memory x d)) x d ≡ Some (edge s.memory x d)
          → child s.memory x d ≡ 0 → knows_leaf (read_edge (of s w) x d (edge s.memory x d)) x ≡ true
      by Left is null = or_left (is_null (read (read_edge (of s w) x Left (edge s.memory x Left)) x Left)) _
          (ap is_null is ∙ eq-eqb (child s.memory x Left) 0 null)
      by Right is null = second (is_null (read (read_edge (of s w) x Right (edge s.memory x Right)) x Left)) _
          (ap is_null is ∙ eq-eqb (child s.memory x Right) 0 null)
        where
          second : (a b : Bool) → b ≡ true → (a || b) ≡ true
          second true b i = refl
          second false b i = i

  -- a look, as the walks for k take it
  ends_walked : (k : ℕ) (ws : List Arrival) (x : ℕ) (f : Field) (l : Knowledge)
      → l ≡ learn w (of s w) (Look x f) (reply_of s w (Look x f))
      → ((i : ℕ) (a : Arrival) → slice_get ws i ≡ Some a → knows (of s w) a.slot ≡ true)
      → EndsAtLeaves l ws → EndsAtLeaves l (walked k ws x f (reply_of s w (Look x f)))
  unfolding reply
  ends_walked k ws x Key l is known ends = λ i b at done.
      let a = mapped_at (keyed x (key s.memory x)) ws i b at in
      by a.0 (λ c. c.ended ≡ true → knows_leaf l c.slot ≡ true) (λ e. ends i a.0 a.1 e) (λ e. ends i a.0 a.1 e) b a.2
      done
    where
      by : (a : Arrival) (P : Arrival → Type 0) → P (record a { key = Some (key s.memory x) }) → P a → (b : Arrival)
          → b ≡ keyed x (key s.memory x) a → P b
      by a P new old b same = subst P (sym same) (cond_both ((a.slot == x) && is_none a.key)
          (record a { key = Some (key s.memory x) }) a P (λ _. new) (λ _. old))
  ends_walked k ws x (EdgeOn d) l is known ends = cond_both (child s.memory x d == 0) (map (ended k x d) ws)
      (cond (is_first x d || list_any (goes_on k x d) ws) (with_arrival ws (child s.memory x d) x d) ws)
      (EndsAtLeaves l)
      (λ null. ending (eqb-true (child s.memory x d) 0 null))
      (λ _. cond_both (is_first x d || list_any (goes_on k x d) ws) (with_arrival ws (child s.memory x d) x d) ws
      (EndsAtLeaves l) (λ _. arriving) (λ _. ends))
    where
      ending : child s.memory x d ≡ 0 → EndsAtLeaves l (map (ended k x d) ws)
      ending null i b at done =
          let a = mapped_at (ended k x d) ws i b at in
          subst (λ (c : Arrival). c.ended ≡ true → knows_leaf l c.slot ≡ true) (sym a.2)
          (cond_both (goes_on k x d a.0) (record a.0 { ended = true }) a.0
          (λ c. c.ended ≡ true → knows_leaf l c.slot ≡ true)
          (λ on _. let slot : a.0.slot ≡ x = eqb-true a.0.slot x (and_parts (a.0.slot == x) (turns k a.0.key d) on).0 in
          rw (slot, is) (null_looked x d (rw (← slot) (known i a.0 a.1)) null))
          (λ _ e. ends i a.0 a.1 e)) done

      arriving : EndsAtLeaves l (with_arrival ws (child s.memory x d) x d)
      arriving = cond_both (list_any (is_by (child s.memory x d) x d) ws) ws
          (ws ++ new_arrival (child s.memory x d) x d ∷ []) (EndsAtLeaves l) (λ _. ends)
          (λ _ i a at done. elim (more_at ws (new_arrival (child s.memory x d) x d) i a at) [
            | inl old ↦ ends i a old done
            | inr new ↦ absurd (true≢false (sym (sym (ap (λ (c : Arrival). c.ended) new) ∙ done)))
          ])
  ends_walked k ws x Birth l is known ends = ends

-- ---- an event that is allowed and in order

pub memory_after : (s : State) (w : ℕ) (e : Event) → (applied s w e).memory ≡ write s.memory (of s w) w e
unfolding applied
memory_after s w e = refl

pub shape_after : (s : State) (w : ℕ) (e : Event) → (applied s w e).layout.radix ≡ s.layout.radix
unfolding applied
shape_after s w e = refl

in_shape : (a b : Bool) (m : Memory) (known : ℕ → Bool) (call : Option Call) (ws : List Arrival) → a ≡ b
    → ForCall b m known call ws → ForCall a m known call ws
in_shape a b m known call ws e f = subst (λ (x : Bool). ForCall x m known call ws) (sym e) f

pub look_writes_nothing : (s : State) (w x : ℕ) (f : Field) → (applied s w (Look x f)).memory ≡ s.memory
unfolding applied write
look_writes_nothing s w x f = refl

none_walked : (shape : Bool) (m : Memory) (known : ℕ → Bool) (call : Option Call) (ws : List Arrival)
    → ForCall shape m known call ws → ForCall shape m known call []
none_walked shape m known None ws f = tt
none_walked shape m known (Some call) ws f = (f.0, no_walks shape (child m) (key m) known call.key)

pub no_ends : (k : Knowledge) → EndsAtLeaves k []
no_ends k i a at done = absurd (none-some a at)

module _ (s : State) (h : ℕ → ℕ) (law : Lawful s h) (w : ℕ) where
  slots_known : (known : ℕ → Bool) (call : Call) (ws : List Arrival)
      → ForCall s.layout.radix s.memory known (Some call) ws → (i : ℕ) (a : Arrival) → slice_get ws i ≡ Some a
      → known a.slot ≡ true
  slots_known known call ws f = f.1.is_known

  look_kept : (S : Search) (x : ℕ) (f : Field) → FixedKeys s.memory → Allowed s w (Look x f)
      → Stays s.memory (of s w) (learn w (of s w) (Look x f) (reply_of s w (Look x f)))
      → ((since : Since) → ForCall s.layout.radix s.memory (knows (of s w)) S.call (arrivals S since))
      → ((since : Since) → EndsAtLeaves (of s w) (arrivals S since)) → (since : Since)
      → ForCall s.layout.radix s.memory (knows (of (applied s w (Look x f)) w))
      (look_for S S.call x f (reply_of s w (Look x f))).call
      (arrivals (look_for S S.call x f (reply_of s w (Look x f))) since)
      × EndsAtLeaves (of (applied s w (Look x f)) w) (arrivals (look_for S S.call x f (reply_of s w (Look x f))) since)
  look_kept S x f fixed ok stays walks ends since = by S.call refl (λ c. walks c)
    where
      r : Reply
      r = reply_of s w (Look x f)

      l : Knowledge
      l = of (applied s w (Look x f)) w

      is : of (applied s w (Look x f)) w ≡ learn w (of s w) (Look x f) (reply_of s w (Look x f))
      is = own_knows s h law w (Look x f) ok

      still : StillKnown (of s w) (of (applied s w (Look x f)) w)
      still y k = subst (λ (b : Knowledge). knows b y ≡ true) (sym is) (stays.known y k)

      end : (since : Since) → EndsAtLeaves (of (applied s w (Look x f)) w) (arrivals S since)
      end since = subst (λ (b : Knowledge). EndsAtLeaves b (arrivals S since)) (sym is)
          (ends_stay s h law w w (learn w (of s w) (Look x f) (reply_of s w (Look x f))) stays (arrivals S since)
          (ends since))

      -- a list of walks to which the look is added, and one to which it is not
      added : (call : Call) (ws : List Arrival) → ForCall s.layout.radix s.memory (knows (of s w)) (Some call) ws
          → EndsAtLeaves (of (applied s w (Look x f)) w) ws
          → ForCall s.layout.radix s.memory (knows (of (applied s w (Look x f)) w)) (Some call)
          (walked call.key ws x f (reply_of s w (Look x f)))
          × EndsAtLeaves (of (applied s w (Look x f)) w) (walked call.key ws x f (reply_of s w (Look x f)))
      added call ws c e = (
        (
          c.0,
          subst (λ (b : Knowledge). WalkLaw s.layout.radix (child s.memory) (key s.memory) (knows b) call.key
              (walked call.key ws x f (reply_of s w (Look x f)))) (sym is)
              (look_law s h law w call.key ws x f c.0 fixed stays.known c.1),
        ),
        ends_walked s h law w call.key ws x f (of (applied s w (Look x f)) w) is
            (slots_known (knows (of s w)) call ws c) e,
      )

      over : (call : Option Call) (ws : List Arrival) → ForCall s.layout.radix s.memory (knows (of s w)) call ws
          → ForCall s.layout.radix s.memory (knows (of (applied s w (Look x f)) w)) call ws
      over None ws c = tt
      over (Some call) ws c = (
        c.0,
        walks_last s.layout.radix (child s.memory) (child s.memory) (key s.memory)
            (key s.memory) (knows (of s w)) (knows (of (applied s w (Look x f)) w)) call.key ws still (λ _ _. refl)
            (λ _ _ _ o. o) c.1,
      )

      by : (o : Option Call) → S.call ≡ o → ((since : Since)
          → ForCall s.layout.radix s.memory (knows (of s w)) S.call (arrivals S since))
          → ForCall s.layout.radix s.memory (knows (of (applied s w (Look x f)) w))
          (look_for S o x f (reply_of s w (Look x f))).call
          (arrivals (look_for S o x f (reply_of s w (Look x f))) since)
          × EndsAtLeaves (of (applied s w (Look x f)) w) (arrivals (look_for S o x f (reply_of s w (Look x f))) since)
      by None at c = (over S.call (arrivals S since) (c since), end since)
      by (Some call) at c = on since
        where
          law_of : (since : Since) → ForCall s.layout.radix s.memory (knows (of s w)) (Some call) (arrivals S since)
          law_of since = subst (λ o. ForCall s.layout.radix s.memory (knows (of s w)) o (arrivals S since)) at (c since)

          on : (since : Since) → ForCall s.layout.radix s.memory (knows (of (applied s w (Look x f)) w)) S.call
              (arrivals (look_for S (Some call) x f (reply_of s w (Look x f))) since)
              × EndsAtLeaves (of (applied s w (Look x f)) w)
              (arrivals (look_for S (Some call) x f (reply_of s w (Look x f))) since)
          on ThePin = rw at (added call S.walks (law_of ThePin) (end ThePin))
          on TheFlag = rw at (later S.flagged)
            where
              later : (n : Option NodeId) → ForCall s.layout.radix s.memory (knows (of (applied s w (Look x f)) w))
                  (Some call) (later_walked n call.key S.later x f (reply_of s w (Look x f)))
                  × EndsAtLeaves (of (applied s w (Look x f)) w)
                  (later_walked n call.key S.later x f (reply_of s w (Look x f)))
              later None = (over (Some call) S.later (law_of TheFlag), end TheFlag)
              later (Some n) = added call S.later (law_of TheFlag) (end TheFlag)

  pub kept_step : EachBirthStands s → (ss : List Search) → OrderLaw s ss → ((u : ℕ) → WalksKept s ss u) → (e : Event)
      → Allowed s w e → disorder s.layout (of s w) (search_of ss w) e ≡ None → HasKey e
      → (u : ℕ) → WalksKept (applied s w e) (learned_from ss w e (reply_of s w e)) u
  kept_step births ss l kept e ok ordered has u = elim (ℕ_discrete u w) [
    | yes is ↦ rw is (of_own (get_or-set_same ss w (searched (search_of ss w) e (reply_of s w e)) idle
        (let size = l.sized in let lt = ok.worker in omega arith)))
    | no ne ↦ of_other ne (get_or-set_other ss w u (searched (search_of ss w) e (reply_of s w e)) idle ne)
  ]
    where
      after : OrderLaw (applied s w e) (learned_from ss w e (reply_of s w e))
      after = order_step s h law w births ss l e ok ordered has

      o : Outlasts s h law (write s.memory (of s w) w e)
      o = outlasts s h law w e (write s.memory (of s w) w e) l.order
          (asks_order s h law w births l.order l.nested e (search_of ss w) ordered l.fixed (l.walks w))
          (tree_change s h law w e ok)

      shape : (applied s w e).layout.radix ≡ s.layout.radix
      shape = shape_after s w e

      reshaped : (u : ℕ) (since : Since) → ForCall s.layout.radix (applied s w e).memory
          (knows (of (applied s w e) u)) (search_of (learned_from ss w e (reply_of s w e)) u).call
          (arrivals (search_of (learned_from ss w e (reply_of s w e)) u) since)
          → ForCall (applied s w e).layout.radix (applied s w e).memory (knows (of (applied s w e) u))
          (search_of (learned_from ss w e (reply_of s w e)) u).call
          (arrivals (search_of (learned_from ss w e (reply_of s w e)) u) since)
      reshaped u since = in_shape (applied s w e).layout.radix s.layout.radix (applied s w e).memory
          (knows (of (applied s w e) u)) (search_of (learned_from ss w e (reply_of s w e)) u).call
          (arrivals (search_of (learned_from ss w e (reply_of s w e)) u) since) shape

      memory : (applied s w e).memory ≡ write s.memory (of s w) w e
      memory = memory_after s w e

      of_other : u ≢ w → search_of (learned_from ss w e (reply_of s w e)) u ≡ search_of ss u
          → WalksKept (applied s w e) (learned_from ss w e (reply_of s w e)) u
      of_other ne same = record {
        law = λ since. reshaped u since (rw (same, memory)
            (last s h law w (write s.memory (of s w) w e) o u (knows (of (applied s w e) u))
            (others_stay s h law w e ok u ne).known (search_of ss u).call (arrivals (search_of ss u) since)
            ((kept u).law since)));
        ends = λ since. rw same (ends_stay s h law w u (of (applied s w e) u) (others_stay s h law w e ok u ne)
            (arrivals (search_of ss u) since) ((kept u).ends since));
      }

      of_own : search_of (learned_from ss w e (reply_of s w e)) w ≡ searched (search_of ss w) e (reply_of s w e)
          → WalksKept (applied s w e) (learned_from ss w e (reply_of s w e)) w
      of_own same = go (begins_anew (e, reply_of s w e)) refl
        where
          go : (b : Bool) → begins_anew (e, reply_of s w e) ≡ b
              → WalksKept (applied s w e) (learned_from ss w e (reply_of s w e)) w
          go true anew = record {
            law = λ since. reshaped w since (rw (same, begun_anew (search_of ss w) e (reply_of s w e) anew since)
                (none_walked s.layout.radix (applied s w e).memory (knows (of (applied s w e) w))
                (searched (search_of ss w) e (reply_of s w e)).call
                (searched (search_of ss w) e (reply_of s w e)).walks
                (in_shape s.layout.radix (applied s w e).layout.radix (applied s w e).memory
                (knows (of (applied s w e) w)) (searched (search_of ss w) e (reply_of s w e)).call
                (searched (search_of ss w) e (reply_of s w e)).walks (sym shape) (rw (← same) (after.walks w)))));
            ends = λ since. rw (same, begun_anew (search_of ss w) e (reply_of s w e) anew since)
                (no_ends (of (applied s w e) w));
          }
          go false stands = by (goes_on_so (search_of ss w) e (reply_of s w e) stands)
            where
              stays : Stays s.memory (of s w) (learn w (of s w) e (reply_of s w e))
              stays = learned_stays s.memory (of s w) w e (reply_of s w e) (answers s h law w e ok) stands

              stays' : Stays s.memory (of s w) (of (applied s w e) w)
              stays' = subst (Stays s.memory (of s w)) (sym (own_knows s h law w e ok)) stays

              by : GoesOn (search_of ss w) e (reply_of s w e) (searched (search_of ss w) e (reply_of s w e))
                  → WalksKept (applied s w e) (learned_from ss w e (reply_of s w e)) w
              by (Same call walks later) = record {
                law = λ since. reshaped w since (rw (same, call, arrivals_same since, memory)
                    (last s h law w (write s.memory (of s w) w e) o w (knows (of (applied s w e) w)) stays'.known
                    (search_of ss w).call (arrivals (search_of ss w) since) ((kept w).law since)));
                ends = λ since. rw (same, arrivals_same since)
                    (ends_stay s h law w w (of (applied s w e) w) stays' (arrivals (search_of ss w) since)
                    ((kept w).ends since));
              }
                where
                  arrivals_same : (since : Since) → arrivals (searched (search_of ss w) e (reply_of s w e)) since
                      ≡ arrivals (search_of ss w) since
                  arrivals_same ThePin = walks
                  arrivals_same TheFlag = later
              by (Looked x f is becomes) = record {
                law = λ since. reshaped w since (rw (same, becomes) (both since).0);
                ends = λ since. rw (same, becomes) (both since).1;
              }
                where
                  Both : Event → Since → Type 0
                  Both e since = ForCall s.layout.radix (applied s w e).memory (knows (of (applied s w e) w))
                      (look_for (search_of ss w) (search_of ss w).call x f (reply_of s w e)).call
                      (arrivals (look_for (search_of ss w) (search_of ss w).call x f (reply_of s w e)) since)
                      × EndsAtLeaves (of (applied s w e) w) (arrivals
                      (look_for (search_of ss w) (search_of ss w).call x f (reply_of s w e)) since)

                  both : (since : Since) → Both e since
                  both since = at_look e is ok stays since
                    where
                      at_look : (e : Event) → e ≡ Look x f → Allowed s w e
                          → Stays s.memory (of s w) (learn w (of s w) e (reply_of s w e)) → (since : Since)
                          → Both e since
                      at_look e is = subst (λ (y : Event). Allowed s w y
                          → Stays s.memory (of s w) (learn w (of s w) y (reply_of s w y)) → (since : Since)
                          → Both y since) (sym is)
                          (λ ok stays since. rw (look_writes_nothing s w x f)
                          (look_kept (search_of ss w) x f l.fixed ok stays (kept w).law (kept w).ends since))
