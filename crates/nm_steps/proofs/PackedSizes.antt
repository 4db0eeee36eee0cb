-- The numbers of a memory are in their range in every state of every run, and so each word is below
-- 2^64, where the keys are.
use Rattle.std.proofs.Common.{◌≡◌, ◌≢◌, ℕ, zero, suc, ◌+◌, ◌-◌, ◌*◌, ◌^◌, ◌<◌, ◌≤◌, ◌==◌, Bool, true, false, cond, not, ◌&&◌, ◌||◌, List, ◌∷◌, [], set, get_or, take, drop, refl, sym, ap, subst, ◌∙◌, arith, length-take, lit<}
use Rattle.std.specs.Prelude.{All, Option, Some, None, is_none, is_some, nat_le, nat_lt, unwrap_or}
use Rattle.std.proofs.lemmas.Bool.{cond_both, or_parts, leb-false, eqb-false, eqb-true, not-false}
use Rattle.std.proofs.lemmas.Option.{none-some, same_Some}
use Rattle.nm_edge.specs.Edges.{Edge, is_to}
use Rattle.nm_edge.specs.Layouts.{Layout}
use Rattle.nm_edge.specs.Words.{Field, at_epoch, at_announcement, at_key, at_edge, at_birth, at_row}
use Rattle.nm_edge.specs.declared.edge.Side.{Side}
use Rattle.nm_edge.specs.declared.edge.Side.TheVariants.{Left, Right}
use Rattle.nm_model.specs.declared.event.Event.{Event}
use Rattle.nm_model.specs.declared.event.Event.TheVariants.{Sight, SightFor, Announce, Leave, LeaveWith, Scan, Advance, Claim, Give, Look, Fill, Link, Flag, Tag, Splice, Swap, Join}
use Rattle.nm_model.specs.declared.event.Field.{Field as NodeField}
use Rattle.nm_model.specs.declared.event.Field.TheVariants.{Key, Edge as EdgeOn, Birth}
use Rattle.nm_model.specs.declared.memory.Node.{Node}
use Rattle.nm_model.specs.declared.reply.Refused.{Refused}
use Rattle.nm_model.specs.declared.reply.Refused.TheVariants.{NoSlot, NotPrivate, NotReady, Spent}
use Rattle.nm_model.specs.Maps.{is_number}
use Rattle.nm_model.specs.Memory.{Memory, blank, node, edge, announcement, put_node, put_edge}
use Rattle.nm_model.specs.Knowledge.{Knowledge, is_private, draft_of}
use Rattle.nm_model.specs.Step.{last_number, outside, is_edge, is_early, is_held_back, others_scanned, exchanged, filled, refusal, write}
use Rattle.nm_model.specs.Runs.{State, of, start, refusal_of, refused, applied, unless_refused, next, after}
use Rattle.nm_model.specs.Laws.{OfEachState}
use Rattle.nm_steps.specs.Packing.{Fits, InRange, announcement_word, field_word, StoresAWord, WordsStayBelow, StateIsInRange, WordsAreBelow}
use Rattle.nm_model.proofs.Numbers.{number_is, repeated}
use Rattle.nm_laws.proofs.Steps.{Allowed, second, third, fourth, by_steps}
use Rattle.nm_laws.proofs.Lawful.{IsLawful, lawful_start, lawful_step}
use Rattle.nm_steps.proofs.NumberBits.{number_below}
use Rattle.nm_laws.proofs.Reachable.{layout_kept}
use Rattle.nm_laws.proofs.Trees.{each_slot}
use Rattle.nm_steps.proofs.PackedReads.{field_read}
use Rattle.nm_steps.proofs.PackedEvents.{each_state_fits}

-- ---- each word

bit_sum : (f t : Bool) → cond t 2 0 + cond f 1 0 < 4
bit_sum true true = lit< tt
bit_sum true false = lit< tt
bit_sum false true = lit< tt
bit_sum false false = lit< tt

pub words_below : WordsAreBelow
words_below L m f fits range few keys h = rw (field_read L m fits f h) (go f)
  where
    announcement_below : (o : Option ℕ) → ((e : ℕ) → o ≡ Some e → e ≤ last_number) → announcement_word o < 2 ^ 64
    announcement_below None h = lit< tt
    announcement_below (Some e) h = omega (arith, h e refl)

    go : (f : Field) → field_word m f < 2 ^ 64
    go at_epoch = omega (arith, range.epoch)
    go (at_announcement w) = announcement_below (announcement m w) (range.announcements w)
    go (at_key s) = keys s
    go (at_edge s side) = omega (arith, range.edges s side, few, bit_sum (edge m s side).flag (edge m s side).tag)
    go (at_birth s) = omega (arith, range.births s)
    go (at_row r) = number_below (take 64 (drop (64 * r + 1) m.pool)) 64
        (omega (arith, length-take 64 (drop (64 * r + 1) m.pool)))

-- ---- in every run

-- a list with one element written still has what it had everywhere, where the new one has it too
pub set_keeps : {X : Type 0} (P : X → Type 0) (xs : List X) (i j : ℕ) (x d : X) → P x → P (get_or xs j d)
    → P (get_or (set xs i x) j d)
set_keeps P [] i j x d new old = old
set_keeps P (y ∷ xs) zero zero x d new old = new
set_keeps P (y ∷ xs) zero (suc j) x d new old = old
set_keeps P (y ∷ xs) (suc i) zero x d new old = old
set_keeps P (y ∷ xs) (suc i) (suc j) x d new old = set_keeps P xs i j x d new old

-- epochs, announcements and births
pub record Small (m : Memory) : Type 0 where
  pub epoch : m.epoch ≤ last_number
  pub announcements : (w e : ℕ) → announcement m w ≡ Some e → e ≤ last_number
  pub births : (s : ℕ) → (node m s).birth ≤ last_number

abbrev IsSmall : Option ℕ → Type 0
IsSmall o = (e : ℕ) → o ≡ Some e → e ≤ last_number

announcement_small : (m : Memory) (w : ℕ) (o : Option ℕ) → Small m → IsSmall o
    → Small (record m { announcements = set m.announcements w o })
announcement_small m w o small new = record {
  epoch = small.epoch;
  announcements = λ u. set_keeps IsSmall
      m.announcements w u o None new (small.announcements u);
  births = small.births;
}

node_small : (m : Memory) (s : ℕ) (x : Node) → Small m → x.birth ≤ last_number → Small (put_node m s x)
node_small m s x small new = record {
  epoch = small.epoch;
  announcements = small.announcements;
  births = λ q.
      set_keeps (λ (y : Node). y.birth ≤ last_number) m.nodes s q x blank new (small.births q);
}

edge_small : (m : Memory) (s : ℕ) (side : Side) (e : Edge) → Small m → Small (put_edge m s side e)
edge_small m s Left e small = node_small m s _ small (small.births s)
edge_small m s Right e small = node_small m s _ small (small.births s)

exchange_small : (m : Memory) (p : ℕ) (side : Side) (s : ℕ) (e : Edge) → Small m → Small (exchanged m p side s e)
exchange_small m p side s e small = cond_both (is_to (edge m p side) s) (put_edge m p side e) m Small
    (λ _. edge_small m p side e small) (λ _. small)

same_pool : (m : Memory) (bs : List Bool) → Small m → Small (record m { pool = bs })
same_pool m bs small = record { epoch = small.epoch; announcements = small.announcements; births = small.births }

module _ (s : State) (k : IsLawful s) (small : Small s.memory) (w : ℕ) where
  seen_small : (o : Option ℕ) → (of s w).brief.seen ≡ o → IsSmall (Some (unwrap_or o 0))
  seen_small None is e at = omega (arith, same_Some 0 e at)
  seen_small (Some x) is e at = omega (arith, same_Some x e at, k.law.epochs.sights w x is, small.epoch)

  small_step : (e : Event) → Allowed s w e → Small (write s.memory (of s w) w e)
  unfolding refusal write
  small_step e ok' = go e ok'.event
    where
      go : (e : Event) → refusal_of s w e ≡ None → Small (write s.memory (of s w) w e)
      go Sight ok = small
      go (SightFor op key) ok = small
      go Announce ok = announcement_small s.memory w _ small (seen_small (of s w).brief.seen refl)
      go Leave ok = announcement_small s.memory w None small (λ e at. absurd (none-some e at))
      go (LeaveWith answer) ok = announcement_small s.memory w None small (λ e at. absurd (none-some e at))
      go (Scan u) ok = small
      go Advance ok = cond_both (is_number (of s w).brief.seen s.memory.epoch)
          (record s.memory { epoch = s.memory.epoch + 1 }) s.memory Small
          (λ same. record { epoch = moved same; announcements = small.announcements; births = small.births })
          (λ _. small)
        where
          unspent : nat_le last_number (unwrap_or (of s w).brief.seen 0) ≡ false
          unspent = second (is_none (of s w).brief.seen
              || (not (others_scanned w (of s w).scanned) || is_held_back (of s w).brief.pin (of s w).brief.seen))
              (nat_le last_number (unwrap_or (of s w).brief.seen 0)) NotReady Spent _ ok

          moved : is_number (of s w).brief.seen s.memory.epoch ≡ true → s.memory.epoch + 1 ≤ last_number
          moved same = omega (
            arith,
            leb-false last_number (unwrap_or (of s w).brief.seen 0) unspent,
            ap
                (λ o. unwrap_or o 0) (number_is (of s w).brief.seen s.memory.epoch same),
          )
      go (Claim x) ok = same_pool s.memory _ small
      go (Give x) ok = same_pool s.memory _ small
      go (Look x f) ok = small
      go (Fill x f v) ok = filling f ok
        where
          filling : (f : NodeField) → refusal_of s w (Fill x f v) ≡ None
              → Small (put_node s.memory x (filled (node s.memory x) f v))
          filling Key ok = node_small s.memory x _ small (small.births x)
          filling (EdgeOn side) ok = edge_small s.memory x side _ small
          filling Birth ok = node_small s.memory x _ small (omega (arith, small.births x, raised, unspent))
            where
              early : is_early (draft_of (of s w) x) Birth v (node s.memory x).birth ≡ false
              early = third (outside 6 s.layout.nodes x || (is_edge Birth && nat_lt s.layout.nodes v))
                  (not (is_private (of s w) x)) (is_early (draft_of (of s w) x) Birth v (node s.memory x).birth) NoSlot
                  NotPrivate NotReady _ ok

              raised : v ≡ (node s.memory x).birth + 1
              raised = eqb-true v ((node s.memory x).birth + 1)
                  (not-false _ (or_parts (is_some (draft_of (of s w) x).birth) (not (v == (node s.memory x).birth + 1))
                  early).1)

              unspent : (node s.memory x).birth ≢ last_number
              unspent = eqb-false (node s.memory x).birth last_number
                  (fourth (outside 6 s.layout.nodes x || (is_edge Birth && nat_lt s.layout.nodes v))
                  (not (is_private (of s w) x)) (is_early (draft_of (of s w) x) Birth v (node s.memory x).birth)
                  ((node s.memory x).birth == last_number) NoSlot NotPrivate NotReady Spent _ ok)
      go (Link p side leaf new) ok = exchange_small s.memory p side leaf _ small
      go (Flag p side leaf) ok = exchange_small s.memory p side leaf _ small
      go (Tag p side) ok = edge_small s.memory p side _ small
      go (Splice a side x p keep) ok = exchange_small s.memory a side x _ small
      go (Swap p side leaf new) ok = exchange_small s.memory p side leaf _ small
      go (Join v) ok = small

-- lawful, and with small numbers
record IsLawfulAndSmall (s : State) : Type 0 where
  pub lawful : IsLawful s
  pub small : Small s.memory

keeps_small : (s : State) (w : ℕ) (e : Event) → IsLawfulAndSmall s → Allowed s w e → IsLawfulAndSmall (applied s w e)
unfolding applied
keeps_small s w e both ok = record {
  lawful = lawful_step s w e both.lawful ok;
  small = small_step s both.lawful
      both.small w e ok;
}

small_start : (L : Layout) → Small (start L).memory
small_start L = record {
  epoch = omega arith;
  announcements = λ w e is. absurd
      (none-some e (sym (repeated L.workers w None) ∙ is));
  births = births;
}
  where
    births : (x : ℕ) → (node (start L).memory x).birth ≤ last_number
    births = each_slot (λ x. (node (start L).memory x).birth ≤ last_number) (omega arith) (omega arith) (omega arith)
        (omega arith) (omega arith) (omega arith) (λ x. omega
        (arith, ap (λ (n : Node). n.birth) (repeated (L.nodes - 5) x blank)))

pub each_state_in_range : OfEachState StateIsInRange
each_state_in_range L enough turns =
    let both = by_steps IsLawfulAndSmall keeps_small turns (start L)
    (record { lawful = lawful_start L enough; small = small_start L }) in
    record {
      epoch = both.small.epoch;
      announcements = both.small.announcements;
      births = both.small.births;
      edges =
          both.lawful.law.tree.within;
    }

-- ---- keys

abbrev Keyed : Memory → Type 0
Keyed m = (x : ℕ) → (node m x).key < 2 ^ 64

node_keyed : (m : Memory) (s : ℕ) (x : Node) → Keyed m → x.key < 2 ^ 64 → Keyed (put_node m s x)
node_keyed m s x keyed new q = set_keeps (λ (y : Node). y.key < 2 ^ 64) m.nodes s q x blank new (keyed q)

edge_keyed : (m : Memory) (s : ℕ) (side : Side) (e : Edge) → Keyed m → Keyed (put_edge m s side e)
edge_keyed m s Left e keyed = node_keyed m s _ keyed (keyed s)
edge_keyed m s Right e keyed = node_keyed m s _ keyed (keyed s)

exchange_keyed : (m : Memory) (p : ℕ) (side : Side) (s : ℕ) (e : Edge) → Keyed m → Keyed (exchanged m p side s e)
exchange_keyed m p side s e keyed = cond_both (is_to (edge m p side) s) (put_edge m p side e) m Keyed
    (λ _. edge_keyed m p side e keyed) (λ _. keyed)

keyed_step : (m : Memory) (k : Knowledge) (w : ℕ) (e : Event) → Keyed m → StoresAWord e → Keyed (write m k w e)
unfolding write
keyed_step m k w Advance keyed word = cond_both (is_number k.brief.seen m.epoch) (record m { epoch = m.epoch + 1 }) m
    Keyed (λ _. keyed) (λ _. keyed)
keyed_step m k w (Fill x Key v) keyed word = node_keyed m x _ keyed word
keyed_step m k w (Fill x (EdgeOn side) v) keyed word = edge_keyed m x side _ keyed
keyed_step m k w (Fill x Birth v) keyed word = node_keyed m x _ keyed (keyed x)
keyed_step m k w (Link p side leaf new) keyed word = exchange_keyed m p side leaf _ keyed
keyed_step m k w (Flag p side leaf) keyed word = exchange_keyed m p side leaf _ keyed
keyed_step m k w (Tag p side) keyed word = edge_keyed m p side _ keyed
keyed_step m k w (Splice a side x p keep) keyed word = exchange_keyed m a side x _ keyed
keyed_step m k w (Swap p side leaf new) keyed word = exchange_keyed m p side leaf _ keyed
keyed_step m k w Sight keyed word = keyed
keyed_step m k w (SightFor op key) keyed word = keyed
keyed_step m k w Announce keyed word = keyed
keyed_step m k w Leave keyed word = keyed
keyed_step m k w (LeaveWith answer) keyed word = keyed
keyed_step m k w (Scan u) keyed word = keyed
keyed_step m k w (Claim x) keyed word = keyed
keyed_step m k w (Give x) keyed word = keyed
keyed_step m k w (Look x f) keyed word = keyed
keyed_step m k w (Join v) keyed word = keyed

keyed_next : (s : State) (t : ℕ × Event) → Keyed s.memory → StoresAWord t.1 → Keyed (next s t).memory
unfolding next applied
keyed_next s t keyed word = go (refused s t.0 t.1)
  where
    go : (o : Option Refused) → Keyed (unless_refused o s (applied s t.0 t.1)).memory
    go None = keyed_step s.memory (of s t.0) t.0 t.1 keyed word
    go (Some r) = keyed

keyed_after : (turns : List (ℕ × Event)) (s : State) → Keyed s.memory → All (λ t. StoresAWord t.1) turns
    → Keyed (after s turns).memory
unfolding after
keyed_after [] s keyed stored = keyed
keyed_after (t ∷ ts) s keyed stored = keyed_after ts (next s t) (keyed_next s t keyed (stored 0 t (omega arith)))
    (λ i d h. stored (suc i) d (omega (arith, h)))

keyed_start : (L : Layout) → Keyed (start L).memory
keyed_start L = each_slot _ (lit< tt) (lit< tt) (lit< tt) (lit< tt) (lit< tt) (lit< tt)
    (λ x. omega (arith, ap (λ (n : Node). n.key) (repeated (L.nodes - 5) x blank)))

pub words_stay_below : WordsStayBelow
words_stay_below L enough few turns stored f h =
    words_below L (after (start L) turns).memory f
    (subst (λ (K : Layout). Fits K (after (start L) turns).memory) same (each_state_fits L enough turns))
    (subst (λ (K : Layout). InRange K (after (start L) turns).memory) same (each_state_in_range L enough turns))
    few (keyed_after turns (start L) (keyed_start L) stored) h
  where
    same : (after (start L) turns).layout ≡ L
    same = layout_kept (start L) turns
