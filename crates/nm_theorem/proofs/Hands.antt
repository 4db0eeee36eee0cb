-- What a worker has in its hands is what its turns tell: what it claimed, and has neither given
-- back nor linked since.
use Rattle.std.proofs.Common.{◌≡◌, ℕ, ◌==◌, eqb, Bool, true, false, cond, not, ◌||◌, ◌&&◌, List, [], ◌∷◌, refl, sym, ap, subst, ◌∙◌, true≢false}
use Rattle.std.specs.Prelude.{Option, Some, None, is_some, unwrap_or, Result, Ok, Err}
use Rattle.std.proofs.lemmas.Bool.{cond_both, eqb-true, eq-eqb}
use Rattle.nm_edge.specs.Edges.{Edge, is_to, other}
use Rattle.nm_edge.specs.Layouts.{Layout, IsLayout}
use Rattle.nm_edge.specs.declared.edge.Side.{Side}
use Rattle.nm_edge.specs.declared.edge.Side.TheVariants.{Left, Right}
use Rattle.nm_edge.specs.declared.node.NodeId.{NodeId}
use Rattle.nm_model.specs.declared.event.Field.{Field}
use Rattle.nm_model.specs.declared.event.Field.TheVariants.{Edge as EdgeOn, Birth}
use Rattle.nm_model.specs.declared.event.Event.{Event}
use Rattle.nm_model.specs.declared.event.Event.TheVariants.{Sight, SightFor, Announce, Leave, LeaveWith, Scan, Advance, Claim, Give, Look, Fill, Link, Flag, Tag, Splice, Join, Swap}
use Rattle.nm_model.specs.declared.reply.Reply.{Reply}
use Rattle.nm_model.specs.declared.reply.Reply.TheVariants.{Announced, Departed, Moved, Behind, Claimed, Returned, Freed, BirthIs, EdgeIs, Filled, Linked, Flagged, Was, Cut, Lost, Joined}
use Rattle.nm_model.specs.declared.reply.Refused.{Refused}
use Rattle.nm_model.specs.declared.knowledge.Draft.{Draft}
use Rattle.nm_model.specs.Maps.{get, has, put, without}
use Rattle.nm_model.specs.Memory.{Memory, edge, child, opening}
use Rattle.nm_model.specs.Knowledge.{Knowledge, is_private, draft_of, unfilled, beside}
use Rattle.nm_model.specs.Learning.{learn, look_private, look_known, filled_in, resigned, inheriting}
use Rattle.nm_model.specs.Step.{reply, node_linked}
use Rattle.nm_model.specs.Runs.{State, of, reply_of, applied}
use Rattle.nm_model.specs.Ordered.{Configuration, opening_of, refused_in, next_in, applied_in, outcome_in, after_in, trace_in}
use Rattle.nm_model.proofs.Tables.{get-put, get-without, Ascends, ascends-without}
use Rattle.nm_laws.proofs.Steps.{Allowed, allowed}
use Rattle.nm_laws.proofs.Configurations.{refused_next, refused_outcome, allowed_next, allowed_outcome, opening_state, allowed_by_state}
use Rattle.nm_laws.proofs.Lawful.{IsLawful}
use Rattle.nm_laws.proofs.Pins.{all_new}
use Rattle.nm_laws.proofs.TreeSlots.{known_live, has_put_own}
use Rattle.nm_laws.proofs.TreeSteps.{Lawful, LinkChecked, link_checked, fill_checked}
use Rattle.nm_laws.proofs.Learned.{sight_teaches, scan_teaches}
use Rattle.nm_order.specs.Logs.{is_leaver}
use Rattle.nm_order.proofs.PartsOfRuns.{partaking, apart}
use Rattle.nm_order.proofs.TreeChanges.{WonLink, won_link}
use Rattle.nm_model.specs.Headline.{takes, lets_go, has_after}
use Rattle.nm_theorem.proofs.Runs.{lawful_opening, lawful_next}
use Rattle.nm_theorem.proofs.WrittenWords.{turn_writes, opening_words}

-- ---- what one worker has after an event with its reply

abbrev goes_on : Memory → Event → Result Reply Refused → ℕ → Bool → Bool
goes_on m e o x had = takes e o x || (had && not (lets_go m e o x))

stays : (b : Bool) → b ≡ (b && true)
stays true = refl
stays false = refl

-- the new leaf under a new node, beside the old one, which is in nobody's hands
record NewLeaf (m : Memory) (k : Knowledge) (leaf new : ℕ) : Type 0 where
  far : ℕ
  is_far : unwrap_or (beside (draft_of k new) leaf) 0 ≡ far
  shared : is_private k leaf ≡ false
  side : Side
  over_leaf : child m new side ≡ leaf
  over_far : child m new (other side) ≡ far

module _ (m : Memory) (w : ℕ) (k : Knowledge) (asc : Ascends k.drafts) (x : ℕ) where
  by_own_look : (s : ℕ) (f : Field) (r : Reply) → is_private k s ≡ true
      → is_private (look_private k s f r) x ≡ is_private k x
  by_own_look s Birth (BirthIs b) own = has_put_own k s (record (draft_of k s) { looked = Some b }) own x
  by_own_look s _ _ own = refl

  by_look : (s : ℕ) (f : Field) (r : Reply) → is_private (look_known k s f r) x ≡ is_private k x
  by_look s (EdgeOn side) (EdgeIs e) = refl
  by_look s Birth (BirthIs b) = refl
  by_look s _ _ = refl

  by_claim : (s : ℕ) → has (put k.drafts s unfilled) x ≡ ((x == s) || (is_private k x && true))
  by_claim s = ap is_some (get-put k.drafts s unfilled x) ∙ go (eqb x s)
    where
      go : (b : Bool) → is_some (cond b (Some unfilled) (get k.drafts x)) ≡ (b || (is_private k x && true))
      go true = refl
      go false = stays (is_private k x)

  by_return : (s : ℕ) → has (without k.drafts s) x ≡ (is_private k x && not (x == s))
  by_return s = ap is_some (get-without k.drafts s x asc) ∙ go (eqb x s) (get k.drafts x)
    where
      go : (b : Bool) (o : Option Draft) → is_some (cond b None o) ≡ (is_some o && not b)
      go true None = refl
      go true (Some d) = refl
      go false o = stays (is_some o)

  by_swap : (new : ℕ) → has (without k.drafts new) x ≡ (is_private k x && not (x == new))
  by_swap new = ap is_some (get-without k.drafts new x asc) ∙ go (eqb x new) (get k.drafts x)
    where
      go : (n : Bool) (o : Option Draft) → is_some (cond n None o) ≡ (is_some o && not n)
      go true None = refl
      go true (Some d) = refl
      go false None = refl
      go false (Some d) = refl

  by_link : (leaf new : ℕ) → NewLeaf m k leaf new → has
      (without (without k.drafts new) (unwrap_or (beside (draft_of k new) leaf) 0)) x
      ≡ (is_private k x && not ((x == new) || ((x == child m new Left) || (x == child m new Right))))
  by_link leaf new l = ap (λ (y : ℕ). has (without (without k.drafts new) y) x) l.is_far
      ∙ (ap is_some (get-without (without k.drafts new) l.far x (ascends-without k.drafts new asc)
      ∙ ap (cond (eqb x l.far) None) (get-without k.drafts new x asc))
      ∙ (go (eqb x l.far) (eqb x new) (get k.drafts x) (eqb x leaf)
      (λ is. ap (is_private k) (eqb-true x leaf is) ∙ l.shared)
      ∙ ap (λ (b : Bool). is_private k x && not ((x == new) || b)) (sym (any_side l.side l.over_leaf l.over_far))))
    where
      -- the old leaf was not private
      go : (f n : Bool) (o : Option Draft) (old : Bool) → (old ≡ true → is_some o ≡ false)
          → is_some (cond f None (cond n None o)) ≡ (is_some o && not (n || (old || f)))
      go true true None old shared = refl
      go true true (Some d) old shared = refl
      go true false None old shared = refl
      go true false (Some d) true shared = refl
      go true false (Some d) false shared = refl
      go false true None old shared = refl
      go false true (Some d) old shared = refl
      go false false None old shared = refl
      go false false (Some d) true shared = absurd (true≢false (shared refl))
      go false false (Some d) false shared = refl

      any_side : (d : Side) → child m new d ≡ leaf → child m new (other d) ≡ l.far
          → ((x == child m new Left) || (x == child m new Right)) ≡ ((x == leaf) || (x == l.far))
      any_side Left a b = λ i. (x == a i) || (x == b i)
      any_side Right a b = (λ i. (x == b i) || (x == a i)) ∙ swapped (x == l.far) (x == leaf)
        where
          swapped : (p q : Bool) → (p || q) ≡ (q || p)
          swapped true true = refl
          swapped true false = refl
          swapped false true = refl
          swapped false false = refl

  learned : (e : Event) (r : Reply) → ((s : ℕ) (f : Field) (v : ℕ) → e ≡ Fill s f v → is_private k s ≡ true)
      → ((p : ℕ) (d : Side) (leaf new : ℕ) (n : NodeId) → e ≡ Link p d leaf new → r ≡ Linked n → NewLeaf m k leaf new)
      → is_private (learn w k e r) x ≡ goes_on m e (Ok r) x (is_private k x)
  unfolding learn
  learned Sight r fills links = ap (λ (l : Knowledge). is_private l x) (sight_teaches k r) ∙ stays (is_private k x)
  learned (SightFor op key) r fills links = ap (λ (l : Knowledge). is_private l x) (sight_teaches k r)
      ∙ stays (is_private k x)
  learned Announce (Announced e) fills links = stays (is_private k x)
  learned Leave Departed fills links = stays (is_private k x)
  learned (LeaveWith answer) Departed fills links = stays (is_private k x)
  learned (Scan u) r fills links = ap (λ (l : Knowledge). is_private l x) (scan_teaches k u r) ∙ stays (is_private k x)
  learned Advance (Moved e) fills links = stays (is_private k x)
  learned Advance (Behind e) fills links = stays (is_private k x)
  learned (Claim s) (Claimed t) fills links = by_claim s
  learned (Give s) (Returned t) fills links = by_return s
  learned (Give s) (Freed n) fills links = stays (is_private k x)
  learned (Look s f) r fills links = cond_both (is_private k s) (look_private k s f r) (look_known k s f r)
      (λ (j : Knowledge). is_private j x ≡ is_private k x) (λ own. by_own_look s f r own) (λ _. by_look s f r)
      ∙ stays (is_private k x)
  learned (Fill s f v) Filled fills links = has_put_own k s (filled_in (draft_of k s) f v) (fills s f v refl) x
      ∙ stays (is_private k x)
  learned (Link p side leaf new) (Linked n) fills links = by_link leaf new (links p side leaf new n refl refl)
  learned (Link p side leaf new) (Lost e) fills links = stays (is_private k x)
  learned (Flag p side leaf) (Flagged n) fills links = stays (is_private k x)
  learned (Flag p side leaf) (Lost e) fills links = stays (is_private k x)
  learned (Tag p side) (Was e) fills links = stays (is_private k x)
  learned (Splice a side s p keep) (Cut ns) fills links = stays (is_private k x)
  learned (Splice a side s p keep) (Lost e) fills links = stays (is_private k x)
  learned (Swap p side leaf new) (Cut ns) fills links = by_swap new
  learned (Swap p side leaf new) (Lost e) fills links = stays (is_private k x)
  learned (Join v) (Joined ls) fills links = cond_both (w == v) (resigned k) (inheriting k ls)
      (λ (j : Knowledge). is_private j x ≡ is_private k x) (λ _. refl) (λ _. refl) ∙ stays (is_private k x)
  learned e r fills links = stays (is_private k x)

  -- who is told of a join has in its hands what it had
  by_join : (e : Event) (r : Reply) → is_leaver w e ≡ true → is_private (learn w k e r) x ≡ is_private k x
  unfolding learn
  by_join (Join v) (Joined ls) is = cond_both (w == v) (resigned k) (inheriting k ls)
      (λ (j : Knowledge). is_private j x ≡ is_private k x) (λ _. refl) (λ _. refl)
  by_join (Join v) r is = refl
  by_join e r is = absurd (true≢false (sym is))

-- ---- an event that is allowed

module _ (s : State) (h : ℕ → ℕ) (law : Lawful s h) (u : ℕ) (e : Event) (ok : Allowed s u e) (w x : ℕ) where
  links_new : (p : ℕ) (d : Side) (leaf new : ℕ) (n : NodeId) → e ≡ Link p d leaf new → reply_of s u e ≡ Linked n
      → NewLeaf s.memory (of s u) leaf new
  unfolding reply
  links_new p d leaf new n is linked = by (is_to (edge s.memory p d) leaf) refl (sym (ap (reply_of s u) is) ∙ linked)
    where
      ok' : Allowed s u (Link p d leaf new)
      ok' = subst (λ (z : Event). Allowed s u z) is ok

      lost : (f : Edge) → Lost f ≡ Linked n → ⊥
      lost f e = cc

      c : LinkChecked s.layout (of s u) p leaf new
      c = link_checked s u p d leaf new ok'.event

      of_won : WonLink s h law u p d leaf new → NewLeaf s.memory (of s u) leaf new
      of_won k = record {
        far = k.drafts.far;
        is_far = k.drafts.is_far;
        shared = (known_live s.layout.nodes s.memory (of s) h u leaf law.tree c.held).shared u;
        side = k.drafts.side;
        over_leaf = ap (λ (y : Edge). y.slot) k.link.over_leaf;
        over_far = ap (λ (y : Edge). y.slot) k.link.over_far;
      }

      by : (b : Bool) → is_to (edge s.memory p d) leaf ≡ b
          → cond b (Linked (node_linked (of s u) new)) (Lost (edge s.memory p d)) ≡ Linked n
          → NewLeaf s.memory (of s u) leaf new
      by true won linked = of_won (won_link s h law u p d leaf new ok' won)
      by false none linked = absurd (lost (edge s.memory p d) linked)

  event_hands : is_private (of (applied s u e) w) x
      ≡ cond (u == w) (goes_on s.memory e (Ok (reply_of s u e)) x (is_private (of s w) x)) (is_private (of s w) x)
  event_hands = go (u == w) refl (is_leaver w e) refl
    where
      own : u ≡ w → is_private (of (applied s u e) w) x
          ≡ goes_on s.memory e (Ok (reply_of s u e)) x (is_private (of s w) x)
      own same = ap (λ (k : Knowledge). is_private k x)
          (partaking s law.staffed u w e ok (ap (λ (b : Bool). b || is_leaver w e) (eq-eqb u w same)))
          ∙ subst (λ (v : ℕ). is_private (learn v (of s v) e (reply_of s u e)) x
          ≡ goes_on s.memory e (Ok (reply_of s u e)) x (is_private (of s v) x)) same
          (learned s.memory u (of s u) (law.drafts u) x e (reply_of s u e) (fill_checked s u e ok.event) links_new)

      go : (b : Bool) → (u == w) ≡ b → (l : Bool) → is_leaver w e ≡ l
          → is_private (of (applied s u e) w) x ≡ cond b
          (goes_on s.memory e (Ok (reply_of s u e)) x (is_private (of s w) x)) (is_private (of s w) x)
      go true is l leaver = own (eqb-true u w is)
      go false is true leaver = ap (λ (k : Knowledge). is_private k x)
          (partaking s law.staffed u w e ok (λ i. is i || leaver i))
          ∙ by_join s.memory w (of s w) (law.drafts w) x e (reply_of s u e) leaver
      go false is false leaver = ap (λ (k : Knowledge). is_private k x)
          (apart s law.staffed u w e ok (λ i. is i || leaver i))

-- ---- a turn

refused_stays : (m : Memory) (e : Event) (q : Refused) (x : ℕ) (had : Bool) → goes_on m e (Err q) x had ≡ had
refused_stays m (Claim s) q x had = sym (stays had)
refused_stays m (Give s) q x had = sym (stays had)
refused_stays m (Link p d leaf new) q x had = sym (stays had)
refused_stays m e q x had = sym (stays had)

module _ (w x : ℕ) where
  turn_hands : (c : Configuration) (t : ℕ × Event) → IsLawful c.state
      → is_private (of (next_in c t).state w) x ≡ cond (t.0 == w)
      (goes_on c.state.memory t.1 (outcome_in c t) x (is_private (of c.state w) x)) (is_private (of c.state w) x)
  unfolding applied_in
  turn_hands c t lawful = go (refused_in c t.0 t.1) refl
    where
      same : (b : Bool) (p q : Bool) → p ≡ q → q ≡ cond b p q
      same true p q e = sym e
      same false p q e = refl

      go : (o : Option Refused) → refused_in c t.0 t.1 ≡ o
          → is_private (of (next_in c t).state w) x ≡ cond (t.0 == w)
          (goes_on c.state.memory t.1 (outcome_in c t) x (is_private (of c.state w) x)) (is_private (of c.state w) x)
      go (Some r) is = ap (λ (d : Configuration). is_private (of d.state w) x) (refused_next c t r is)
          ∙ same (t.0 == w) (goes_on c.state.memory t.1 (outcome_in c t) x (is_private (of c.state w) x))
          (is_private (of c.state w) x)
          (ap (λ (o : Result Reply Refused). goes_on c.state.memory t.1 o x (is_private (of c.state w) x))
          (refused_outcome c t r is) ∙ refused_stays c.state.memory t.1 r x (is_private (of c.state w) x))
      go None is = ap (λ (d : Configuration). is_private (of d.state w) x) (allowed_next c t is)
          ∙ (event_hands c.state lawful.holder lawful.law t.0 t.1
          (allowed c.state t.0 t.1 (allowed_by_state c t.0 t.1 is)) w x
          ∙ ap (λ (o : Result Reply Refused). cond (t.0 == w)
          (goes_on c.state.memory t.1 o x (is_private (of c.state w) x)) (is_private (of c.state w) x))
          (sym (allowed_outcome c t is)))

  hands_from : (ts : List (ℕ × Event)) (c : Configuration) → IsLawful c.state
      → has_after c.state.memory w x (is_private (of c.state w) x) (trace_in c ts)
      ≡ is_private (of (after_in c ts).state w) x
  unfolding after_in trace_in
  hands_from [] c lawful = refl
  hands_from (t ∷ ts) c lawful = (λ i. has_after (turn_writes c t lawful i) w x (sym (turn_hands c t lawful) i)
      (trace_in (next_in c t) ts)) ∙ hands_from ts (next_in c t) (lawful_next c t lawful)

  first_hands : (L : Layout) (b : Bool) → is_private (of (opening_of L b).state w) x ≡ false
  first_hands L b = ap (λ (s : State). is_private (of s w) x) (opening_state L b)
      ∙ ap (λ (k : Knowledge). is_private k x) (all_new L w)

  pub run_hands : (L : Layout) → IsLayout L → (b : Bool) (ts : List (ℕ × Event))
      → has_after (opening L) w x false (trace_in (opening_of L b) ts)
      ≡ is_private (of (after_in (opening_of L b) ts).state w) x
  run_hands L fits b ts = (λ i. has_after (sym (opening_words L b) i) w x (sym (first_hands L b) i)
      (trace_in (opening_of L b) ts)) ∙ hands_from ts (opening_of L b) (lawful_opening L fits b)
