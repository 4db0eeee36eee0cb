-- What becomes of the edge of a node that is in nobody's hands, over one event and over one turn.
use Rattle.std.proofs.Common.{◌≡◌, ℕ, ◌+◌, ◌<◌, ◌≤◌, ◌==◌, Bool, true, false, cond, List, length, [], ◌∷◌, refl, sym, ap, subst, ◌∙◌, arith, true≢false, get_or-set_other}
use Rattle.std.specs.Prelude.{Option, Some, None, Ok, Err}
use Rattle.std.specs.List.{list_any}
use native.Mathlib.Decide.{ℕ_discrete}
use Rattle.std.proofs.lemmas.Bool.{cond_both, or_parts, eq-eqb, and_from}
use Rattle.nm_edge.specs.Edges.{Edge, to, is_to, tagged}
use Rattle.nm_edge.specs.Layouts.{Layout}
use Rattle.nm_edge.specs.declared.edge.Side.{Side}
use Rattle.nm_edge.specs.declared.edge.Side.TheVariants.{Left, Right}
use Rattle.nm_edge.specs.declared.node.NodeId.{NodeId}
use Rattle.nm_model.specs.declared.memory.Node.{Node}
use Rattle.nm_model.specs.declared.event.Event.{Event}
use Rattle.nm_model.specs.declared.event.Event.TheVariants.{Fill, Link, Flag, Tag, Splice, Swap, Advance}
use Rattle.nm_model.specs.declared.event.Field.{Field}
use Rattle.nm_model.specs.declared.reply.Reply.{Reply}
use Rattle.nm_model.specs.declared.reply.Reply.TheVariants.{Linked, Flagged, Was, Cut, Lost}
use Rattle.nm_model.specs.declared.reply.Refused.{Refused}
use Rattle.nm_model.specs.Maps.{is_number}
use Rattle.nm_model.specs.Memory.{Memory, blank, node, edge, edge_of, put_edge, put_node, named}
use Rattle.nm_model.specs.Knowledge.{knows, is_private, read}
use Rattle.nm_model.specs.Learning.{flag_to}
use Rattle.nm_model.specs.Step.{outside, filled, kept, refusal, reply, write, node_linked, cut_nodes}
use Rattle.nm_model.specs.Runs.{State, of, reply_of, applied, refused}
use Rattle.nm_model.specs.Walks.{begins_anew}
use Rattle.nm_model.specs.Ordered.{Configuration, refused_in, applied_in, disorder_in, next_in, outcome_in}
use Rattle.nm_laws.proofs.Steps.{Allowed, allowed, passed}
use Rattle.nm_laws.proofs.TreeSlots.{is_to-true}
use Rattle.nm_laws.proofs.TreeSteps.{Lawful, slot_inside, fill_checked}
use Rattle.nm_laws.proofs.Configurations.{refused_next, refused_outcome, allowed_next, allowed_outcome}
use Rattle.nm_laws.proofs.Cuts.{shown, shown_swap}
use Rattle.nm_order.proofs.TreeChanges.{won_link}
use Rattle.nm_order.proofs.FlaggedPaths.{Put, put_case}
use Rattle.nm_order.proofs.FlaggedPaths.Put.{Here, There}
use Rattle.nm_order.proofs.OrderedLaws.{IsOrdered, neither, law_of_state}
use Rattle.nm_order.proofs.FlaggedNodes.{memory_is}
use Rattle.nm_order.proofs.KnowledgeStays.{learned_stays, answers}
use Rattle.nm_order.proofs.CallWalks.{others_stay, own_knows}
use Rattle.nm_order.proofs.RunMoments.{entries, allowed_entries}
use Rattle.nm_progress.specs.Changes.{is_at}

pub same_place : (x : ℕ) (d : Side) → is_at x d x d ≡ true
same_place x Left = and_from (x == x) true (eq-eqb x x refl) refl
same_place x Right = and_from (x == x) true (eq-eqb x x refl) refl

-- the edge of x on side d behind an event with its reply: as it was, or changed by that event
pub data EdgeFate (s : State) (w : ℕ) (e : Event) (m : Memory) (r : Reply) (x : ℕ) (d : Side) : Type 0 where
  Kept : edge m x d ≡ edge s.memory x d → EdgeFate s w e m r x d
  IsLinked : (leaf new : ℕ) (n : NodeId) → e ≡ Link x d leaf new → r ≡ Linked n → edge s.memory x d ≡ to leaf
      → edge m x d ≡ to new → EdgeFate s w e m r x d
  IsFlagged : (leaf : ℕ) (n : NodeId) → e ≡ Flag x d leaf → r ≡ Flagged n → edge s.memory x d ≡ to leaf
      → edge m x d ≡ flag_to leaf → EdgeFate s w e m r x d
  IsTagged : e ≡ Tag x d → r ≡ Was (edge s.memory x d) → edge m x d ≡ tagged (edge s.memory x d)
      → EdgeFate s w e m r x d
  IsSpliced : (y p : ℕ) (keep : Side) (ns : List NodeId) → e ≡ Splice x d y p keep → r ≡ Cut ns
      → edge s.memory x d ≡ to y → edge m x d ≡ kept (read (of s w) p keep) → EdgeFate s w e m r x d
  IsSwapped : (leaf new : ℕ) (ns : List NodeId) → e ≡ Swap x d leaf new → r ≡ Cut ns → edge s.memory x d ≡ to leaf
      → edge m x d ≡ to new → EdgeFate s w e m r x d

module _ (s : State) (h : ℕ → ℕ) (law : Lawful s h) (w x : ℕ) (d : Side) (shared : is_private (of s w) x ≡ false) where
  abbrev Fate : Event → Memory → Reply → Type 0
  Fate e m r = EdgeFate s w e m r x d

  filling : (y : ℕ) (f : Field) (v : ℕ) (r : Reply) → is_private (of s w) y ≡ true
      → Fate (Fill y f v) (put_node s.memory y (filled (node s.memory y) f v)) r
  filling y f v r own = Kept (ap (λ (k : Node). edge_of k d)
      (get_or-set_other s.memory.nodes y x (filled (node s.memory y) f v) blank
      (λ at. true≢false (sym (ap (is_private (of s w)) at ∙ own) ∙ shared))))

  linking : (p : ℕ) (g : Side) (leaf new : ℕ) (r : Reply) → p < length s.memory.nodes
      → is_to (edge s.memory p g) leaf ≡ true → r ≡ Linked (node_linked (of s w) new)
      → Fate (Link p g leaf new) (put_edge s.memory p g (to new)) r
  linking p g leaf new r inside won told = by (put_case s.memory p g (to new) inside x d)
    where
      by : Put s.memory p g (to new) x d → Fate (Link p g leaf new) (put_edge s.memory p g (to new)) r
      by (Here at side is) = IsLinked leaf new (node_linked (of s w) new) (λ i. Link (sym at i) (side i) leaf new)
          told (ap (λ (z : ℕ). edge s.memory z d) at ∙ (ap (edge s.memory p) (sym side)
          ∙ is_to-true (edge s.memory p g) leaf won)) is
      by (There is) = Kept is

  flagging : (p : ℕ) (g : Side) (leaf : ℕ) (r : Reply) → p < length s.memory.nodes
      → is_to (edge s.memory p g) leaf ≡ true → r ≡ Flagged (named s.memory leaf)
      → Fate (Flag p g leaf) (put_edge s.memory p g (flag_to leaf)) r
  flagging p g leaf r inside won told = by (put_case s.memory p g (flag_to leaf) inside x d)
    where
      by : Put s.memory p g (flag_to leaf) x d → Fate (Flag p g leaf) (put_edge s.memory p g (flag_to leaf)) r
      by (Here at side is) = IsFlagged leaf (named s.memory leaf) (λ i. Flag (sym at i) (side i) leaf) told
          (ap (λ (z : ℕ). edge s.memory z d) at ∙ (ap (edge s.memory p) (sym side)
          ∙ is_to-true (edge s.memory p g) leaf won)) is
      by (There is) = Kept is

  tagging : (p : ℕ) (g : Side) (r : Reply) → p < length s.memory.nodes → r ≡ Was (edge s.memory p g)
      → Fate (Tag p g) (put_edge s.memory p g (tagged (edge s.memory p g))) r
  tagging p g r inside told = by (put_case s.memory p g (tagged (edge s.memory p g)) inside x d)
    where
      by : Put s.memory p g (tagged (edge s.memory p g)) x d
          → Fate (Tag p g) (put_edge s.memory p g (tagged (edge s.memory p g))) r
      by (Here at side is) =
          let same : edge s.memory p g ≡ edge s.memory x d = ap (λ (z : ℕ). edge s.memory z g) (sym at)
          ∙ ap (edge s.memory x) side in
          IsTagged (λ i. Tag (sym at i) (side i)) (told ∙ ap (λ (k : Edge). Was k) same)
          (is ∙ ap (λ (k : Edge). tagged k) same)
      by (There is) = Kept is

  splicing : (a : ℕ) (g : Side) (y p : ℕ) (keep : Side) (r : Reply) → a < length s.memory.nodes
      → is_to (edge s.memory a g) y ≡ true → r ≡ Cut (cut_nodes s.layout s.memory (of s w) y p keep)
      → Fate (Splice a g y p keep) (put_edge s.memory a g (kept (read (of s w) p keep))) r
  splicing a g y p keep r inside won told = by (put_case s.memory a g (kept (read (of s w) p keep)) inside x d)
    where
      by : Put s.memory a g (kept (read (of s w) p keep)) x d
          → Fate (Splice a g y p keep) (put_edge s.memory a g (kept (read (of s w) p keep))) r
      by (Here at side is) = IsSpliced y p keep (cut_nodes s.layout s.memory (of s w) y p keep)
          (λ i. Splice (sym at i) (side i) y p keep) told
          (ap (λ (z : ℕ). edge s.memory z d) at ∙ (ap (edge s.memory a) (sym side)
          ∙ is_to-true (edge s.memory a g) y won)) is
      by (There is) = Kept is

  swapping : (p : ℕ) (g : Side) (leaf new : ℕ) (r : Reply) → p < length s.memory.nodes
      → is_to (edge s.memory p g) leaf ≡ true → r ≡ Cut (named s.memory leaf ∷ [])
      → Fate (Swap p g leaf new) (put_edge s.memory p g (to new)) r
  swapping p g leaf new r inside won told = by (put_case s.memory p g (to new) inside x d)
    where
      by : Put s.memory p g (to new) x d → Fate (Swap p g leaf new) (put_edge s.memory p g (to new)) r
      by (Here at side is) = IsSwapped leaf new (named s.memory leaf ∷ []) (λ i. Swap (sym at i) (side i) leaf new) told
          (ap (λ (z : ℕ). edge s.memory z d) at
          ∙ (ap (edge s.memory p) (sym side) ∙ is_to-true (edge s.memory p g) leaf won)) is
      by (There is) = Kept is

  exchange : (e : Event) (b : Bool) (m : Memory) (won lost : Reply) → (b ≡ true → Fate e m won)
      → Fate e (cond b m s.memory) (cond b won lost)
  exchange e true m won lost f = f refl
  exchange e false m won lost f = Kept refl

  pub edge_fates : (e : Event) → Allowed s w e → Fate e (write s.memory (of s w) w e) (reply_of s w e)
  unfolding write reply refusal
  edge_fates Advance ok = Kept (cond_both (is_number (of s w).brief.seen s.memory.epoch)
      (record s.memory { epoch = s.memory.epoch + 1 }) s.memory (λ m. edge m x d ≡ edge s.memory x d) (λ _. refl)
      (λ _. refl))
  edge_fates (Fill y f v) ok = filling y f v _ (fill_checked s w (Fill y f v) ok.event y f v refl)
  edge_fates (Link p g leaf new) ok = exchange (Link p g leaf new) (is_to (edge s.memory p g) leaf)
      (put_edge s.memory p g (to new)) (Linked (node_linked (of s w) new)) (Lost (edge s.memory p g))
      (λ won. linking p g leaf new _ (let k = won_link s h law w p g leaf new ok won in let b = k.link.inside in
      let size = law.roomy.nodes in omega arith) won refl)
  edge_fates (Flag p g leaf) ok = exchange (Flag p g leaf) (is_to (edge s.memory p g) leaf)
      (put_edge s.memory p g (flag_to leaf)) (Flagged (named s.memory leaf)) (Lost (edge s.memory p g))
      (λ won. flagging p g leaf _ (slot_inside s h law p 1
      (or_parts (outside 1 s.layout.nodes p) (outside 6 s.layout.nodes leaf) (passed _ _ _ ok.event).0).0) won refl)
  edge_fates (Tag p g) ok = tagging p g _ (slot_inside s h law p 1 (passed _ _ _ ok.event).0) refl
  edge_fates (Splice a g y p keep) ok = exchange (Splice a g y p keep) (is_to (edge s.memory a g) y)
      (put_edge s.memory a g (kept (read (of s w) p keep))) (Cut (cut_nodes s.layout s.memory (of s w) y p keep))
      (Lost (edge s.memory a g)) (λ won. splicing a g y p keep _ (shown s h law w a g y p keep ok won).inside won refl)
  edge_fates (Swap p g leaf new) ok = exchange (Swap p g leaf new) (is_to (edge s.memory p g) leaf)
      (put_edge s.memory p g (to new)) (Cut (named s.memory leaf ∷ [])) (Lost (edge s.memory p g))
      (λ won. swapping p g leaf new _ (shown_swap s h law w p g leaf new ok won).inside won refl)
  edge_fates e ok = Kept refl

-- ---- one turn

-- of a turn: it is refused and leaves all as it is, or it has a fate
pub data TurnFate (c : Configuration) (t : ℕ × Event) (x : ℕ) (d : Side) : Type 0 where
  Refuses : (q : Refused) → outcome_in c t ≡ Err q → next_in c t ≡ c → TurnFate c t x d
  Makes : (r : Reply) → outcome_in c t ≡ Ok r → EdgeFate c.state t.0 t.1 (next_in c t).state.memory r x d
      → TurnFate c t x d

module _ (L : Layout) (enough : 5 ≤ L.nodes) (c : Configuration) (t : ℕ × Event) (o : IsOrdered L c) where
  pub turn_fates : (x : ℕ) (d : Side) → is_private (of c.state t.0) x ≡ false → TurnFate c t x d
  unfolding refused_in applied_in
  turn_fates x d shared = go (refused_in c t.0 t.1) refl
    where
      go : (q : Option Refused) → refused_in c t.0 t.1 ≡ q → TurnFate c t x d
      go (Some q) why = Refuses q (refused_outcome c t q why) (refused_next c t q why)
      go None why =
          let ok : Allowed c.state t.0 t.1 = allowed c.state t.0 t.1
          (neither (refused c.state t.0 t.1) (disorder_in c t.0 t.1) why).0 in
          let l = law_of_state L enough c o in
          let now : (next_in c t).state.memory ≡ (applied c.state t.0 t.1).memory = ap
          (λ (d : Configuration). d.state.memory) (allowed_next c t why) in
          let is = now ∙ memory_is c.state l.0 l.1 t.0 t.1 ok in
          Makes (reply_of c.state t.0 t.1) (allowed_outcome c t why)
          (subst (λ (m : Memory). EdgeFate c.state t.0 t.1 m (reply_of c.state t.0 t.1) x d) (sym is)
          (edge_fates c.state l.0 l.1 t.0 x d shared t.1 ok))

  -- what a worker knows it knows still, while it neither confirms nor leaves a pin
  pub known_still : (w x : ℕ) → list_any begins_anew (entries w c t) ≡ false → knows (of c.state w) x ≡ true
      → knows (of (next_in c t).state w) x ≡ true
  unfolding refused_in applied_in
  known_still w x stands known = go (refused_in c t.0 t.1) refl
    where
      go : (q : Option Refused) → refused_in c t.0 t.1 ≡ q → knows (of (next_in c t).state w) x ≡ true
      go (Some q) why = ap (λ (d : Configuration). knows (of d.state w) x) (refused_next c t q why) ∙ known
      go None why = ap (λ (d : Configuration). knows (of d.state w) x) (allowed_next c t why)
          ∙ elim (ℕ_discrete w t.0) [
            | yes is ↦ own is
            | no ne ↦ (others_stay c.state l.0 l.1 t.0 t.1 ok w ne).known x known
          ]
        where
          ok : Allowed c.state t.0 t.1
          ok = allowed c.state t.0 t.1 (neither (refused c.state t.0 t.1) (disorder_in c t.0 t.1) why).0

          l : (h : ℕ → ℕ) × Lawful c.state h
          l = law_of_state L enough c o

          quiet : t.0 ≡ w → begins_anew (t.1, reply_of c.state t.0 t.1) ≡ false
          quiet is = (or_parts (begins_anew (t.1, reply_of c.state t.0 t.1)) false
              (sym (ap (list_any begins_anew) (allowed_entries w c t (reply_of c.state t.0 t.1)
              (allowed_outcome c t why) ∙ ap (λ (b : Bool). cond b ((t.1, reply_of c.state t.0 t.1) ∷ []) [])
              (eq-eqb t.0 w is))) ∙ stands)).0

          own : w ≡ t.0 → knows (of (applied c.state t.0 t.1) w) x ≡ true
          own is = subst (λ (u : ℕ). knows (of c.state u) x ≡ true → knows (of (applied c.state t.0 t.1) u) x ≡ true)
              (sym is) (λ known. subst (λ k. knows k x ≡ true) (sym (own_knows c.state l.0 l.1 t.0 t.1 ok))
              ((learned_stays c.state.memory (of c.state t.0) t.0 t.1 (reply_of c.state t.0 t.1)
              (answers c.state l.0 l.1 t.0 t.1 ok) (quiet (sym is))).known x known)) known
