-- What a worker knows was told to it under its pin: of every run.
use Rattle.std.proofs.Common.{◌≡◌, ◌≢◌, ℕ, ◌≤◌, ◌⊎◌, inl, inr, ◌==◌, Bool, true, false, ◌&&◌, ◌||◌, List, [], ◌∷◌, ◌++◌, append_assoc, refl, sym, ap, subst, ◌∙◌, true≢false}
use Rattle.std.specs.Prelude.{Option, Some, None, Ok}
use Rattle.std.specs.List.{list_any}
use native.Mathlib.Decide.{ℕ_discrete}
use Rattle.std.proofs.lemmas.Option.{none-some}
use Rattle.std.proofs.lemmas.Bool.{cond_both, false_from_ne_true, ne_eqb}
use Rattle.std.proofs.lemmas.List.{append-nil}
use Rattle.std.proofs.lemmas.List.Folds.{list_any-append}
use Rattle.nm_edge.specs.Layouts.{Layout, IsLayout}
use Rattle.nm_model.specs.declared.event.Event.{Event}
use Rattle.nm_model.specs.declared.event.Event.TheVariants.{Join}
use Rattle.nm_model.specs.declared.reply.Reply.{Reply}
use Rattle.nm_model.specs.declared.reply.Reply.TheVariants.{Joined}
use Rattle.nm_model.specs.declared.reply.Refused.{Refused}
use Rattle.nm_model.specs.declared.trace.Turn.{Turn}
use Rattle.nm_model.specs.declared.knowledge.Seen.{Seen}
use Rattle.nm_model.specs.Maps.{has}
use Rattle.nm_model.specs.Memory.{opening}
use Rattle.nm_model.specs.Knowledge.{Knowledge, newcomer, knows, is_private}
use Rattle.nm_model.specs.Learning.{learn, resigned, inheriting}
use Rattle.nm_model.specs.Runs.{State, of, reply_of, applied}
use Rattle.nm_model.specs.Ordered.{Configuration, opening_of, refused_in, next_in, applied_in, outcome_in, after_in, trace_in}
use Rattle.nm_laws.proofs.Steps.{Allowed, allowed}
use Rattle.nm_laws.proofs.Configurations.{refused_next, refused_outcome, allowed_next, allowed_outcome, after_in-append, opening_state, allowed_by_state}
use Rattle.nm_laws.proofs.Lawful.{IsLawful}
use Rattle.nm_laws.proofs.Pins.{all_new}
use Rattle.nm_laws.proofs.OrderedRuns.{none_departs}
use Rattle.nm_order.specs.Logs.{is_leaver}
use Rattle.nm_order.proofs.PartsOfRuns.{partaking, apart}
use Rattle.nm_order.proofs.CallWalks.{own_knows}
use Rattle.nm_order.proofs.WalksOfRuns.{trace_in-append}
use Rattle.nm_model.specs.Headline.{confirms, departs, leaves, has_after, IsPinned, HasLeft, edge_told, WasTold}
use Rattle.nm_theorem.proofs.Runs.{told_in, lawful_opening, lawful_next, lawful_after}
use Rattle.nm_theorem.proofs.Hands.{run_hands}
use Rattle.nm_theorem.proofs.StaysOfRuns.{one_first, trace_first}
use Rattle.nm_theorem.proofs.Learns.{Learns, ByReply, learned}

-- ---- one turn more

module _ (w : ℕ) where
  pub not_left_more : (since : List Turn) (t : Turn) → (HasLeft w since → ⊥) → leaves w t ≡ false
      → HasLeft w (since ++ t ∷ []) → ⊥
  not_left_more since t stays none left = by (list_any (leaves w) since) (leaves w t)
      (false_from_ne_true (list_any (leaves w) since) stays) none
      (sym (list_any-append (leaves w) since (t ∷ [])) ∙ left)
    where
      by : (a b : Bool) → a ≡ false → b ≡ false → (a || (b || false)) ≡ true → ⊥
      by false false a b is = true≢false (sym is)
      by true b a none is = true≢false a
      by false true a none is = true≢false none

  pub pinned_more : (turns : List Turn) (t : Turn) → leaves w t ≡ false → IsPinned w turns
      → IsPinned w (turns ++ t ∷ [])
  pinned_more turns t none p = record {
    before = p.before;
    sight = p.sight;
    since = p.since ++ t ∷ [];
    are = ap (λ (ts : List Turn). ts ++ t ∷ []) p.are ∙ append_assoc p.before (p.sight ∷ p.since) (t ∷ []);
    own = p.own;
    pins = p.pins;
    stays = not_left_more p.since t p.stays none;
  }

  pub told_more : (L : Layout) (x : ℕ) (turns : List Turn) (t : Turn) → leaves w t ≡ false → WasTold L w x turns
      → WasTold L w x (turns ++ t ∷ [])
  told_more L x turns t none p = record {
    before = p.before;
    told = p.told;
    since = p.since ++ t ∷ [];
    are = ap (λ (ts : List Turn). ts ++ t ∷ []) p.are ∙ append_assoc p.before (p.told ∷ p.since) (t ∷ []);
    own = p.own;
    pinned = p.pinned;
    from = p.from;
    edge = p.edge;
    free = p.free;
    stays = not_left_more p.since t p.stays none;
  }

-- ---- what becomes of a worker's pin, and of what it knows, by a turn

record Moves (w : ℕ) (c : Configuration) (t : ℕ × Event) (d : State) : Type 0 where
  pin : (p : ℕ) → (of d w).brief.pin ≡ Some p → (((of c.state w).brief.pin ≡ Some p)
      × (leaves w (told_in c t) ≡ false)) ⊎ ((t.0 ≡ w) × (confirms t.1 (outcome_in c t) ≡ true))
  known : (x : ℕ) → 3 ≤ x → knows (of d w) x ≡ true
      → ((knows (of c.state w) x ≡ true) × (leaves w (told_in c t) ≡ false))
      ⊎ ((t.0 ≡ w) × (from : ℕ) × (edge_told t.1 (outcome_in c t) ≡ Some (from, x))
      × (is_private (of c.state w) from ≡ false) × ((of d w).brief.pin ≡ (of c.state w).brief.pin))

and_false : (a b : Bool) → b ≡ false → (a && b) ≡ false
and_false true b none = none
and_false false b none = refl

false_and : (a b : Bool) → a ≡ false → (a && b) ≡ false
false_and true b none = absurd (true≢false none)
false_and false b none = refl

-- who is told of a join knows what it knew
by_join : (w : ℕ) (k : Knowledge) (e : Event) (r : Reply) → is_leaver w e ≡ true
    → ((learn w k e r).known ≡ k.known) × ((learn w k e r).brief.pin ≡ k.brief.pin)
unfolding learn
by_join w k (Join v) (Joined ls) is = cond_both (w == v) (resigned k) (inheriting k ls)
    (λ (j : Knowledge). (j.known ≡ k.known) × (j.brief.pin ≡ k.brief.pin)) (λ _. (refl, refl)) (λ _. (refl, refl))
by_join w k (Join v) r is = (refl, refl)
by_join w k e r is = absurd (true≢false (sym is))

module _ (w : ℕ) where
  -- nothing changes for it
  same_moves : (c : Configuration) (t : ℕ × Event) (d : State) → leaves w (told_in c t) ≡ false
      → ((x : ℕ) → knows (of d w) x ≡ knows (of c.state w) x) → (of d w).brief.pin ≡ (of c.state w).brief.pin
      → Moves w c t d
  same_moves c t d none knows' pin' = record {
    pin = λ p is. inl (sym pin' ∙ is, none);
    known = λ x six is. inl
        (sym (knows' x) ∙ is, none);
  }

  other_moves : (c : Configuration) (t : ℕ × Event) → IsLawful c.state → Allowed c.state t.0 t.1 → (w ≢ t.0)
      → Moves w c t (applied c.state t.0 t.1)
  other_moves c t l ok ne = go (is_leaver w t.1) refl
    where
      not_own : (t.0 == w) ≡ false
      not_own = ne_eqb t.0 w (λ z. ne (sym z))

      none : leaves w (told_in c t) ≡ false
      none = false_and (t.0 == w) (departs t.1 (outcome_in c t)) not_own

      go : (b : Bool) → is_leaver w t.1 ≡ b → Moves w c t (applied c.state t.0 t.1)
      go true leaver =
          let is = partaking c.state l.law.staffed t.0 w t.1 ok (λ i. not_own i || leaver i) in
          let by = by_join w (of c.state w) t.1 (reply_of c.state t.0 t.1) leaver in
          same_moves c t (applied c.state t.0 t.1) none
          (λ x. ap (λ (k : Knowledge). knows k x) is ∙ ap (λ (m : List (ℕ × Seen)). has m x) by.0)
          (ap (λ (k : Knowledge). k.brief.pin) is ∙ by.1)
      go false leaver =
          let is = apart c.state l.law.staffed t.0 w t.1 ok (λ i. not_own i || leaver i) in
          same_moves c t (applied c.state t.0 t.1) none (λ x. ap (λ (k : Knowledge). knows k x) is)
          (ap (λ (k : Knowledge). k.brief.pin) is)

  own_moves : (c : Configuration) (t : ℕ × Event) → IsLawful c.state → Allowed c.state t.0 t.1
      → outcome_in c t ≡ Ok (reply_of c.state t.0 t.1) → t.0 ≡ w → Moves w c t (applied c.state t.0 t.1)
  own_moves c t l ok answer own = subst (λ (v : ℕ). Moves v c t (applied c.state t.0 t.1)) own (record {
    pin = λ p is. pins p (m.pin p (ap (λ (k : Knowledge). k.brief.pin) (sym becomes) ∙ is));
    known = λ x six is. knowns x (m.known x six (ap (λ (k : Knowledge). knows k x) (sym becomes) ∙ is));
  })
    where
      r : Reply
      r = reply_of c.state t.0 t.1

      becomes : of (applied c.state t.0 t.1) t.0 ≡ learn t.0 (of c.state t.0) t.1 (reply_of c.state t.0 t.1)
      becomes = own_knows c.state l.holder l.law t.0 t.1 ok

      m : Learns (of c.state t.0) (learn t.0 (of c.state t.0) t.1 (reply_of c.state t.0 t.1)) t.1
          (reply_of c.state t.0 t.1)
      m = learned c.state l.holder l.law t.0 t.1 (reply_of c.state t.0 t.1) ok

      none : departs t.1 (Ok (reply_of c.state t.0 t.1)) ≡ false → leaves t.0 (told_in c t) ≡ false
      none is = and_false (t.0 == t.0) (departs t.1 (outcome_in c t)) (ap (departs t.1) answer ∙ is)

      pins : (p : ℕ) → (((of c.state t.0).brief.pin ≡ Some p)
          × (departs t.1 (Ok (reply_of c.state t.0 t.1)) ≡ false))
          ⊎ (confirms t.1 (Ok (reply_of c.state t.0 t.1)) ≡ true)
          → (((of c.state t.0).brief.pin ≡ Some p) × (leaves t.0 (told_in c t) ≡ false))
          ⊎ ((t.0 ≡ t.0) × (confirms t.1 (outcome_in c t) ≡ true))
      pins p (inl was) = inl (was.0, none was.1)
      pins p (inr is) = inr (refl, ap (confirms t.1) answer ∙ is)

      knowns : (x : ℕ) → ((knows (of c.state t.0) x ≡ true) × (departs t.1 (Ok (reply_of c.state t.0 t.1)) ≡ false))
          ⊎ ByReply (of c.state t.0) (learn t.0 (of c.state t.0) t.1 (reply_of c.state t.0 t.1)) t.1
          (reply_of c.state t.0 t.1) x
          → ((knows (of c.state t.0) x ≡ true) × (leaves t.0 (told_in c t) ≡ false))
          ⊎ ((t.0 ≡ t.0) × (from : ℕ) × (edge_told t.1 (outcome_in c t) ≡ Some (from, x))
          × (is_private (of c.state t.0) from ≡ false)
          × ((of (applied c.state t.0 t.1) t.0).brief.pin ≡ (of c.state t.0).brief.pin))
      knowns x (inl was) = inl (was.0, none was.1)
      knowns x (inr b) = inr (
        refl,
        b.from,
        ap (edge_told t.1) answer
            ∙ b.edge,
        b.free,
        ap (λ (k : Knowledge). k.brief.pin) becomes ∙ b.pin,
      )

  moves : (c : Configuration) (t : ℕ × Event) → IsLawful c.state → Moves w c t (next_in c t).state
  unfolding applied_in
  moves c t l = go (refused_in c t.0 t.1) refl
    where
      go : (o : Option Refused) → refused_in c t.0 t.1 ≡ o → Moves w c t (next_in c t).state
      go (Some q) is = subst (λ (d : Configuration). Moves w c t d.state) (sym (refused_next c t q is))
          (same_moves c t c.state (and_false (t.0 == w) (departs t.1 (outcome_in c t))
          (ap (departs t.1) (refused_outcome c t q is) ∙ none_departs t.1 q)) (λ x. refl) refl)
      go None is = subst (λ (d : Configuration). Moves w c t d.state) (sym (allowed_next c t is))
          (elim (ℕ_discrete w t.0) [
            | yes same ↦ own_moves c t l ok (allowed_outcome c t is) (sym same)
            | no ne ↦
                other_moves c t l ok ne
          ])
        where
          ok : Allowed c.state t.0 t.1
          ok = allowed c.state t.0 t.1 (allowed_by_state c t.0 t.1 is)

-- ---- runs

-- of each worker: its pin, and what it knows, by the turns
pub record AreTold (L : Layout) (turns : List Turn) (s : State) : Type 0 where
  pub pins : (w p : ℕ) → (of s w).brief.pin ≡ Some p → IsPinned w turns
  pub told : (w x : ℕ) → 3 ≤ x → knows (of s w) x ≡ true → WasTold L w x turns

module _ (L : Layout) where
  told_turn : (turns : List Turn) (c : Configuration) (t : ℕ × Event) → IsLawful c.state
      → ((w x : ℕ) → has_after (opening L) w x false turns ≡ is_private (of c.state w) x) → AreTold L turns c.state
      → AreTold L (turns ++ told_in c t ∷ []) (next_in c t).state
  told_turn turns c t l hands a = record {
    pins = λ w p is. pin w p ((moves w c t l).pin p is);
    told = λ w x six is. known w x six is ((moves w c t l).known x six is);
  }
    where
      pin : (w p : ℕ) → (((of c.state w).brief.pin ≡ Some p) × (leaves w (told_in c t) ≡ false))
          ⊎ ((t.0 ≡ w) × (confirms t.1 (outcome_in c t) ≡ true)) → IsPinned w (turns ++ told_in c t ∷ [])
      pin w p (inl was) = pinned_more w turns (told_in c t) was.1 (a.pins w p was.0)
      pin w p (inr new) = record {
        before = turns;
        sight = told_in c t;
        since = [];
        are = refl;
        own = new.0;
        pins =
            new.1;
        stays = λ z. true≢false (sym z);
      }

      known : (w x : ℕ) → 3 ≤ x → knows (of (next_in c t).state w) x ≡ true
          → ((knows (of c.state w) x ≡ true) × (leaves w (told_in c t) ≡ false))
          ⊎ ((t.0 ≡ w) × (from : ℕ) × (edge_told t.1 (outcome_in c t) ≡ Some (from, x))
          × (is_private (of c.state w) from ≡ false) × ((of (next_in c t).state w).brief.pin
          ≡ (of c.state w).brief.pin)) → WasTold L w x (turns ++ told_in c t ∷ [])
      known w x six is (inl was) = told_more w L x turns (told_in c t) was.1 (a.told w x six was.0)
      known w x six is (inr new) = record {
        before = turns;
        told = told_in c t;
        since = [];
        are = refl;
        own = new.0;
        pinned = a.pins w under.0 (sym new.4 ∙ under.1);
        from = new.1;
        edge = new.2;
        free = hands w new.1 ∙ new.3;
        stays = λ z. true≢false (sym z);
      }
        where
          under : (p : ℕ) × ((of (next_in c t).state w).brief.pin ≡ Some p)
          under = (lawful_next c t l).law.known w x is

  module _ (fits : IsLayout L) (b : Bool) where
    abbrev Done : List (ℕ × Event) → Type 0
    Done done = AreTold L (trace_in (opening_of L b) done) (after_in (opening_of L b) done).state

    nothing_more : (c : Configuration) → after_in c [] ≡ c
    unfolding after_in
    nothing_more c = refl

    nothing_told : (c : Configuration) → trace_in c [] ≡ []
    unfolding trace_in
    nothing_told c = refl

    first_done : Done []
    first_done = record {
      pins = λ w p is. absurd (none-some p
          (sym (ap (λ (k : Knowledge). k.brief.pin) (new w)) ∙ is));
      told = λ w x six is. absurd
          (true≢false (sym is ∙ ap (λ (k : Knowledge). knows k x) (new w)));
    }
      where
        new : (w : ℕ) → of (after_in (opening_of L b) []).state w ≡ newcomer L w
        new w = ap (λ (c : Configuration). of c.state w) (nothing_more (opening_of L b))
            ∙ (ap (λ (s : State). of s w) (opening_state L b) ∙ all_new L w)

    done_turn : (done : List (ℕ × Event)) (t : ℕ × Event) → Done done → Done (done ++ t ∷ [])
    done_turn done t a = subst (λ (us : List Turn). AreTold L us (after_in (opening_of L b) (done ++ t ∷ [])).state)
        (sym told) (subst (λ (c : Configuration). AreTold L
        (trace_in (opening_of L b) done ++ told_in (after_in (opening_of L b) done) t ∷ []) c.state) (sym leads)
        (told_turn (trace_in (opening_of L b) done) (after_in (opening_of L b) done) t
        (lawful_after done (opening_of L b) (lawful_opening L fits b)) (λ w x. run_hands w x L fits b done) a))
      where
        leads : after_in (opening_of L b) (done ++ t ∷ []) ≡ next_in (after_in (opening_of L b) done) t
        leads = after_in-append (opening_of L b) done (t ∷ [])
            ∙ (one_first (after_in (opening_of L b) done) t []
            ∙ nothing_more (next_in (after_in (opening_of L b) done) t))

        told : trace_in (opening_of L b) (done ++ t ∷ [])
            ≡ trace_in (opening_of L b) done ++ told_in (after_in (opening_of L b) done) t ∷ []
        told = trace_in-append (opening_of L b) done (t ∷ [])
            ∙ ap (λ (us : List Turn). trace_in (opening_of L b) done ++ us)
            (trace_first (after_in (opening_of L b) done) t []
            ∙ ap (λ (us : List Turn). told_in (after_in (opening_of L b) done) t ∷ us)
            (nothing_told (next_in (after_in (opening_of L b) done) t)))

    done_from : (ts done : List (ℕ × Event)) → Done done → Done (done ++ ts)
    done_from [] done a = subst (λ (us : List (ℕ × Event)). Done us) (sym (append-nil done)) a
    done_from (t ∷ ts) done a = subst (λ (us : List (ℕ × Event)). Done us) (append_assoc done (t ∷ []) ts)
        (done_from ts (done ++ t ∷ []) (done_turn done t a))

    pub are_told : (ts : List (ℕ × Event)) → AreTold L (trace_in (opening_of L b) ts)
        (after_in (opening_of L b) ts).state
    are_told ts = done_from ts [] first_done
