-- What a worker touches it knows, and what it knows stays for as long as it has not left: what is
-- known is in no pool and in nobody's hands.
use Rattle.std.proofs.Common.{◌≡◌, ◌≢◌, ℕ, zero, suc, ◌==◌, inl, inr, ◌⊎◌, true, false, cond, List, [], ◌∷◌, refl, sym, ap, subst, ◌∙◌, arith, true≢false}
use Rattle.std.specs.Prelude.{Option, Some, None, is_some, Ok, Contains}
use Rattle.std.specs.List.{list_any}
use native.Mathlib.Decide.{ℕ_discrete}
use Rattle.std.proofs.lemmas.Bool.{cond_both, and_parts, or_parts, eq-eqb, false_from_ne_true, and_from}
use Rattle.nm_edge.specs.declared.edge.Side.{Side}
use Rattle.nm_model.specs.declared.event.Field.{Field}
use Rattle.nm_model.specs.declared.event.Op.{Op}
use Rattle.nm_model.specs.declared.event.Event.{Event}
use Rattle.nm_model.specs.declared.event.Event.TheVariants.{Sight, SightFor, Leave, LeaveWith, Look, Fill, Link, Flag, Tag, Splice, Swap}
use Rattle.nm_model.specs.declared.reply.Reply.{Reply}
use Rattle.nm_model.specs.declared.reply.Reply.TheVariants.{Saw, Labelled, Pinned}
use Rattle.nm_model.specs.declared.reply.Refused.{Refused}
use Rattle.nm_model.specs.Memory.{Memory, node, edge}
use Rattle.nm_model.specs.Knowledge.{Knowledge, knows, is_private, read, is_tagged, way}
use Rattle.nm_model.specs.Lawful.{ReadsStand}
use Rattle.nm_model.specs.Step.{reply, reply_sight, confirmed}
use Rattle.nm_model.specs.Runs.{State, of, reply_of, applied}
use Rattle.nm_model.specs.Walks.{begins_anew}
use Rattle.nm_model.specs.Ordered.{Configuration, refused_in, next_in, applied_in, outcome_in, after_in, trace_in}
use Rattle.nm_laws.proofs.Steps.{Allowed, allowed}
use Rattle.nm_laws.proofs.Configurations.{refused_next, refused_outcome, allowed_next, allowed_outcome, allowed_by_state}
use Rattle.nm_laws.proofs.Lawful.{IsLawful}
use Rattle.nm_laws.proofs.KnownBirths.{written_same}
use Rattle.nm_laws.proofs.Pictures.{IsLive}
use Rattle.nm_laws.proofs.TreeSlots.{known_live, tag_known}
use Rattle.nm_laws.proofs.TreeSteps.{Lawful, LinkChecked, link_checked, FlagChecked, flag_checked, tag_checked, SpliceChecked, SwapChecked, swap_checked, splice_checked, look_checked, fill_checked}
use Rattle.nm_laws.proofs.Views.{view}
use Rattle.nm_laws.proofs.Outcomes.{no_reply}
use Rattle.nm_order.proofs.CallWalks.{others_stay, own_knows, memory_after}
use Rattle.nm_order.proofs.KnowledgeStays.{learned_stays, answers}
use Rattle.nm_model.specs.Headline.{departs, leaves, touched}
use Rattle.nm_theorem.proofs.Runs.{told_in, lawful_next}

-- ---- what an event touches, its worker knows

one_of : (y : ℕ) (ys : List ℕ) (x : ℕ) → Contains (y ∷ ys) x → (y ≡ x) ⊎ Contains ys x
one_of y ys x (zero, below, at) = inl at
one_of y ys x (suc k, below, at) = inr (k, omega (arith, below), at)

no_more : (x : ℕ) → Contains [] x → ⊥
no_more x c = let b = c.1 in omega (arith, b)

module _ (s : State) (h : ℕ → ℕ) (law : Lawful s h) (w : ℕ) (x : ℕ) (free : is_private (of s w) x ≡ false) where
  abbrev k : Knowledge
  k = of s w

  own_not : (y : ℕ) → is_private (of s w) y ≡ true → y ≡ x → ⊥
  own_not y own same = true≢false (sym own ∙ (ap (is_private (of s w)) same ∙ free))

  knows_it : (y : ℕ) → knows (of s w) y ≡ true → y ≡ x → knows (of s w) x ≡ true
  knows_it y known same = ap (knows (of s w)) (sym same) ∙ known

  -- a tagged edge was read of a node that is known
  tag_of_known : (p : ℕ) (side : Side) → ReadsStand s w → is_tagged (read (of s w) p side) ≡ true
      → knows (of s w) p ≡ true
  tag_of_known p side stand tag = stand.known p side (edge s.memory p side)
      (tag_known s.layout.nodes s.memory (of s) h w p side law.tree tag)

  pub touch_known : ReadsStand s w → (e : Event) → Allowed s w e → Contains (touched e) x → knows (of s w) x ≡ true
  touch_known stand (Look y f) ok c = by (one_of y [] x c)
    where
      by : (y ≡ x) ⊎ Contains [] x → knows (of s w) x ≡ true
      by (inl same) = knows_it y (look_checked s w y f ok.event (ap (is_private (of s w)) same ∙ free)) same
      by (inr more) = absurd (no_more x more)
  touch_known stand (Link p d leaf new) ok c = by (one_of p (leaf ∷ new ∷ []) x c)
    where
      l : LinkChecked s.layout (of s w) p leaf new
      l = link_checked s w p d leaf new ok.event

      last : (new ≡ x) ⊎ Contains [] x → knows (of s w) x ≡ true
      last (inl same) = absurd (own_not new l.own same)
      last (inr more) = absurd (no_more x more)

      next : (leaf ≡ x) ⊎ Contains (new ∷ []) x → knows (of s w) x ≡ true
      next (inl same) = knows_it leaf l.held same
      next (inr more) = last (one_of new [] x more)

      by : (p ≡ x) ⊎ Contains (leaf ∷ new ∷ []) x → knows (of s w) x ≡ true
      by (inl same) = knows_it p l.known same
      by (inr more) = next (one_of leaf (new ∷ []) x more)
  touch_known stand (Swap p d leaf new) ok c = by (one_of p (leaf ∷ new ∷ []) x c)
    where
      l : SwapChecked (of s w) p leaf new
      l = swap_checked s w p d leaf new ok.event

      last : (new ≡ x) ⊎ Contains [] x → knows (of s w) x ≡ true
      last (inl same) = absurd (own_not new l.own same)
      last (inr more) = absurd (no_more x more)

      next : (leaf ≡ x) ⊎ Contains (new ∷ []) x → knows (of s w) x ≡ true
      next (inl same) = knows_it leaf l.held same
      next (inr more) = last (one_of new [] x more)

      by : (p ≡ x) ⊎ Contains (leaf ∷ new ∷ []) x → knows (of s w) x ≡ true
      by (inl same) = knows_it p l.known same
      by (inr more) = next (one_of leaf (new ∷ []) x more)
  touch_known stand (Flag p d leaf) ok c = by (one_of p (leaf ∷ []) x c)
    where
      held : FlagChecked (of s w) p leaf
      held = flag_checked s w p d leaf ok.event

      next : (leaf ≡ x) ⊎ Contains [] x → knows (of s w) x ≡ true
      next (inl same) = knows_it leaf held.held same
      next (inr more) = absurd (no_more x more)

      by : (p ≡ x) ⊎ Contains (leaf ∷ []) x → knows (of s w) x ≡ true
      by (inl same) = knows_it p held.known same
      by (inr more) = next (one_of leaf [] x more)
  touch_known stand (Tag p d) ok c = by (one_of p [] x c)
    where
      by : (p ≡ x) ⊎ Contains [] x → knows (of s w) x ≡ true
      by (inl same) = knows_it p (tag_checked s w p d ok.event).0 same
      by (inr more) = absurd (no_more x more)
  touch_known stand (Splice a d y p keep) ok c = by (one_of a (y ∷ p ∷ []) x c)
    where
      held : SpliceChecked s.layout (of s w) a y p keep
      held = splice_checked s w a d y p keep ok.event

      parent : knows (of s w) p ≡ true
      parent = tag_of_known p keep stand (and_parts (is_tagged (read (of s w) p keep)) _
          (and_parts (is_some (way s.layout.nodes (of s w) y p)) _ held.frozen).1).0

      last : (p ≡ x) ⊎ Contains [] x → knows (of s w) x ≡ true
      last (inl same) = knows_it p parent same
      last (inr more) = absurd (no_more x more)

      next : (y ≡ x) ⊎ Contains (p ∷ []) x → knows (of s w) x ≡ true
      next (inl same) = knows_it y held.held same
      next (inr more) = last (one_of p [] x more)

      by : (a ≡ x) ⊎ Contains (y ∷ p ∷ []) x → knows (of s w) x ≡ true
      by (inl same) = knows_it a held.known same
      by (inr more) = next (one_of y (p ∷ []) x more)
  touch_known stand e ok c = absurd (no_more x c)

-- ---- what is known stays, and is shared

-- a worker that is pinned is not pinned anew
not_anew : (s : State) (w p : ℕ) (e : Event) → (of s w).brief.pin ≡ Some p → departs e (Ok (reply_of s w e)) ≡ false
    → begins_anew (e, reply_of s w e) ≡ false
unfolding reply
not_anew s w p e pin stays = go e stays
  where
    sight : (r : Reply) → r ≡ reply_sight (of s w) s.memory.epoch → begins_anew (Sight, r) ≡ false
    sight r is = subst (λ (q : Reply). begins_anew (Sight, q) ≡ false) (sym is)
        (subst (λ (o : Option ℕ). begins_anew (
          Sight,
          cond (of s w).brief.unlabelled (Labelled s.memory.epoch)
              (confirmed o (of s w).brief.announcement s.memory.epoch),
        ) ≡ false) (sym pin)
        (cond_both (of s w).brief.unlabelled (Labelled s.memory.epoch) (Saw s.memory.epoch)
        (λ (q : Reply). begins_anew (Sight, q) ≡ false) (λ _. refl) (λ _. refl)))

    same : (op : Op) (key : ℕ) (r : Reply) → begins_anew (SightFor op key, r) ≡ begins_anew (Sight, r)
    same op key (Pinned n) = refl
    same op key r = refl

    go : (e : Event) → departs e (Ok (reply_of s w e)) ≡ false → begins_anew (e, reply_of s w e) ≡ false
    go Sight none = sight (reply_sight (of s w) s.memory.epoch) refl
    go (SightFor op key) none = same op key (reply_sight (of s w) s.memory.epoch)
        ∙ sight (reply_sight (of s w) s.memory.epoch) refl
    go Leave none = absurd (true≢false none)
    go (LeaveWith answer) none = absurd (true≢false none)
    go e none = refl

-- what a worker knows of a slot in one state, and in a later one
pub record Still (w x : ℕ) (s t : State) : Type 0 where
  pub known : knows (of t w) x ≡ true
  pub birth : (node t.memory x).birth ≡ (node s.memory x).birth

module _ (w x : ℕ) where
  pub live : (s : State) (l : IsLawful s) → knows (of s w) x ≡ true → IsLive (view s.memory (of s) l.holder) x
  live s l known = known_live s.layout.nodes s.memory (of s) l.holder w x l.law.tree known

  event_stays : (s : State) → IsLawful s → (u : ℕ) (e : Event) → Allowed s u e
      → (u ≡ w → departs e (Ok (reply_of s u e)) ≡ false) → knows (of s w) x ≡ true → Still w x s (applied s u e)
  event_stays s l u e ok stays known = record {
    known = elim (ℕ_discrete w u)
        [ yes same ↦ mine same | no ne ↦ (others_stay s l.holder l.law u e ok w ne).known x known ];
    birth = ap
        (λ (m : Memory). (node m x).birth) (memory_after s u e) ∙ (written_same s.memory (of s u) u e x apart).birth;
  }
    where
      apart : (y : ℕ) (f : Field) (v : ℕ) → e ≡ Fill y f v → x ≢ y
      apart y f v is same = true≢false (sym (fill_checked s u e ok.event y f v is)
          ∙ (ap (is_private (of s u)) (sym same) ∙ (live s l known).shared u))

      mine : w ≡ u → knows (of (applied s u e) w) x ≡ true
      mine same = subst (λ (v : ℕ). knows (of (applied s u e) v) x ≡ true) (sym same)
          (ap (λ (k : Knowledge). knows k x) (own_knows s l.holder l.law u e ok)
          ∙ (learned_stays s.memory (of s u) u e (reply_of s u e) (answers s l.holder l.law u e ok)
          (not_anew s u (pin.0) e pin.1 (stays (sym same)))).known x here)
        where
          here : knows (of s u) x ≡ true
          here = subst (λ (v : ℕ). knows (of s v) x ≡ true) same known

          pin : (p : ℕ) × ((of s u).brief.pin ≡ Some p)
          pin = l.law.known u x here

  turn_stays : (c : Configuration) → IsLawful c.state → (t : ℕ × Event) → leaves w (told_in c t) ≡ false
      → knows (of c.state w) x ≡ true → Still w x c.state (next_in c t).state
  unfolding applied_in
  turn_stays c l t stays known = go (refused_in c t.0 t.1) refl
    where
      none : (r : Reply) → outcome_in c t ≡ Ok r → t.0 ≡ w → departs t.1 (Ok r) ≡ false
      none r is own = false_from_ne_true (departs t.1 (Ok r))
          (λ leaves'. true≢false (sym (and_from (t.0 == w) (departs t.1 (outcome_in c t)) (eq-eqb t.0 w own)
          (ap (departs t.1) is ∙ leaves')) ∙ stays))

      go : (o : Option Refused) → refused_in c t.0 t.1 ≡ o → Still w x c.state (next_in c t).state
      go (Some r) is = subst (λ (d : Configuration). Still w x c.state d.state) (sym (refused_next c t r is))
          (record { known = known; birth = refl })
      go None is = subst (λ (d : Configuration). Still w x c.state d.state) (sym (allowed_next c t is))
          (event_stays c.state l t.0 t.1 (allowed c.state t.0 t.1 (allowed_by_state c t.0 t.1 is))
          (none (reply_of c.state t.0 t.1) (allowed_outcome c t is)) known)

  pub turns_stay : (ts : List (ℕ × Event)) (c : Configuration) → IsLawful c.state
      → list_any (leaves w) (trace_in c ts) ≡ false → knows (of c.state w) x ≡ true
      → Still w x c.state (after_in c ts).state
  unfolding after_in trace_in
  turns_stay [] c l stays known = record { known = known; birth = refl }
  turns_stay (t ∷ ts) c l stays known =
      let parts = or_parts (leaves w (told_in c t)) (list_any (leaves w) (trace_in (next_in c t) ts)) stays in
      let first = turn_stays c l t parts.0 known in
      let rest = turns_stay ts (next_in c t) (lawful_next c t l) parts.1 first.known in
      record { known = rest.known; birth = rest.birth ∙ first.birth }

-- ---- one turn in front

pub one_first : (c : Configuration) (t : ℕ × Event) (ts : List (ℕ × Event))
    → after_in c (t ∷ ts) ≡ after_in (next_in c t) ts
unfolding after_in
one_first c t ts = refl

pub trace_first : (c : Configuration) (t : ℕ × Event) (ts : List (ℕ × Event))
    → trace_in c (t ∷ ts) ≡ told_in c t ∷ trace_in (next_in c t) ts
unfolding trace_in
trace_first c t ts = refl

pub was_allowed : (c : Configuration) (t : ℕ × Event) (r : Reply) → outcome_in c t ≡ Ok r → refused_in c t.0 t.1 ≡ None
was_allowed c t r is = go (refused_in c t.0 t.1) refl
  where
    go : (o : Option Refused) → refused_in c t.0 t.1 ≡ o → refused_in c t.0 t.1 ≡ None
    go None why = why
    go (Some q) why = absurd (no_reply q r (sym (refused_outcome c t q why) ∙ is))
