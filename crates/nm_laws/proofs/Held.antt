-- What a worker's ledgers are by origin, after each change of them.
use Rattle.std.proofs.Common.{◌≡◌, ℕ, zero, suc, ◌<◌, ◌≢◌, Bool, true, false, cond, ◌==◌, List, [], ◌∷◌, length, refl, sym, ap, ◌∙◌, arith, length-set, get_or-set_same, get_or-set_other}
use Rattle.std.specs.Prelude.{Option, Some, None, is_some, option_map}
use Rattle.std.proofs.lemmas.Option.{none-some, same_Some}
use Rattle.std.proofs.lemmas.Bool.{cond-true, cond-false, eqb-true}
use Rattle.std.proofs.lemmas.List.{length-map}
use Rattle.nm_edge.specs.declared.node.NodeId.{NodeId}
use Rattle.nm_model.specs.declared.ledger.Queued.{Queued}
use Rattle.nm_model.specs.declared.ledger.Ledger.{Ledger}
use Rattle.nm_model.specs.Maps.{or_else}
use Rattle.nm_model.specs.Ledgers.{held, front_at, queue_of, front_of, queued_entry, with_cut, retire, labelled, label, with_freed, free, taken_over}

-- ---- labels, cuts

pub held-label : (e : ℕ) (ls : List (Option Ledger)) (o : ℕ) → held (label e ls) o ≡ option_map (labelled e) (held ls o)
held-label e [] o = refl
held-label e (l ∷ ls) zero = refl
held-label e (l ∷ ls) (suc o) = held-label e ls o

pub length-label : (e : ℕ) (ls : List (Option Ledger)) → length (label e ls) ≡ length ls
length-label e ls = length-map ls (option_map (labelled e))

pub held-retire_same : (ls : List (Option Ledger)) (w : ℕ) (ns : List NodeId) → w < length ls
    → held (retire ls w ns) w ≡ option_map (with_cut ns) (held ls w)
held-retire_same ls w ns inside = get_or-set_same ls w _ None inside

pub held-retire_other : (ls : List (Option Ledger)) (w : ℕ) (ns : List NodeId) (o : ℕ) → o ≢ w
    → held (retire ls w ns) o ≡ held ls o
held-retire_other ls w ns o ne = get_or-set_other ls w o _ None ne

pub length-retire : (ls : List (Option Ledger)) (w : ℕ) (ns : List NodeId) → length (retire ls w ns) ≡ length ls
length-retire ls w ns = length-set ls w _

-- ---- the front of a queue leaves

-- the origin whose queue has this entry of a slot at its front, and what it is when the node is
-- freed
pub record Front (ls : List (Option Ledger)) (s : ℕ) (e : Queued) (n : NodeId) : Type 0 where
  pub origin : ℕ
  pub ledger : Ledger
  pub rest : List Queued
  pub is_held : held ls origin ≡ Some ledger
  pub queue : ledger.queue ≡ e ∷ rest
  pub slot : e.node.slot ≡ s
  pub after : held (free ls n) origin ≡ Some (with_freed n ledger)
  pub others : (o : ℕ) → o ≢ origin → held (free ls n) o ≡ held ls o

-- what a queue's front shows
record AtFront (l : Option Ledger) (s : ℕ) (e : Queued) : Type 0 where
  ledger : Ledger
  rest : List Queued
  is : l ≡ Some ledger
  queue : ledger.queue ≡ e ∷ rest
  slot : e.node.slot ≡ s

front_shown : (l : Option Ledger) (s : ℕ) (e : Queued) → front_at (queue_of l) s ≡ Some e → AtFront l s e
front_shown None s e h = absurd (none-some e h)
front_shown (Some l) s e h = go l.queue refl h
  where
    go : (q : List Queued) → l.queue ≡ q → front_at q s ≡ Some e → AtFront (Some l) s e
    go [] is h = absurd (none-some e h)
    go (x ∷ q) is h = by (x.node.slot == s) refl h
      where
        by : (b : Bool) → (x.node.slot == s) ≡ b → cond b (Some x) None ≡ Some e → AtFront (Some l) s e
        by true i h = let same = same_Some x e h in
            record {
              ledger = l;
              rest = q;
              is = refl;
              queue = is
                  ∙ ap (λ (y : Queued). y ∷ q) same;
              slot = ap (λ (y : Queued). y.node.slot) (sym same) ∙ eqb-true _ s i;
            }
        by false i h = absurd (none-some e h)

pub front : (ls : List (Option Ledger)) (s : ℕ) (e : Queued) (n : NodeId) → n.slot ≡ s → front_of ls s ≡ Some e
    → Front ls s e n
front [] s e n at h = absurd (none-some e h)
front (l ∷ ls) s e n at h = go (front_at (queue_of l) s) refl h (front ls s e n at)
  where
    same_front : front_at (queue_of l) n.slot ≡ front_at (queue_of l) s
    same_front = ap (front_at (queue_of l)) at

    go : (o : Option Queued) → front_at (queue_of l) s ≡ o → or_else o (front_of ls s) ≡ Some e
        → (front_of ls s ≡ Some e → Front ls s e n) → Front (l ∷ ls) s e n
    go (Some x) is h later =
        let shown = front_shown l s e (is ∙ h) in
        let freed : free (l ∷ ls) n ≡ option_map (with_freed n) l
        ∷ ls = cond-true (is_some (front_at (queue_of l) n.slot)) (option_map (with_freed n) l ∷ ls)
        (l ∷ free ls n) (ap is_some (same_front ∙ is)) in
        record {
          origin = 0;
          ledger = shown.ledger;
          rest = shown.rest;
          is_held = shown.is;
          queue = shown.queue;
          slot = shown.slot;
          after = ap (λ (ms : List (Option Ledger)). held ms 0) freed ∙ ap (option_map (with_freed n)) shown.is;
          others = λ o ne. ap (λ (ms : List (Option Ledger)). held ms o) freed ∙ past o ne;
        }
      where
        past : (o : ℕ) → o ≢ 0 → held (option_map (with_freed n) l ∷ ls) o ≡ held (l ∷ ls) o
        past zero ne = absurd (ne refl)
        past (suc o) ne = refl
    go None is h later =
        let f = later h in
        let kept : free (l ∷ ls) n ≡ l ∷ free ls n = cond-false (is_some (front_at (queue_of l) n.slot))
        (option_map (with_freed n) l ∷ ls) (l ∷ free ls n) (ap is_some (same_front ∙ is)) in
        record {
          origin = suc f.origin;
          ledger = f.ledger;
          rest = f.rest;
          is_held = f.is_held;
          queue = f.queue;
          slot = f.slot;
          after = ap (λ (ms : List (Option Ledger)). held ms (suc f.origin)) kept ∙ f.after;
          others = λ o ne. ap (λ (ms : List (Option Ledger)). held ms o) kept ∙ past f.origin o ne f.others;
        }
      where
        past : (p o : ℕ) → o ≢ suc p → ((o : ℕ) → o ≢ p → held (free ls n) o ≡ held ls o)
            → held (l ∷ free ls n) o ≡ held (l ∷ ls) o
        past p zero ne others = refl
        past p (suc o) ne others = others o (λ i. ne (ap (λ (y : ℕ). suc y) i))

-- what stands at a front is of the slot that was asked for
pub front_slot : (ls : List (Option Ledger)) (s : ℕ) (e : Queued) → front_of ls s ≡ Some e → e.node.slot ≡ s
front_slot [] s e h = absurd (none-some e h)
front_slot (l ∷ ls) s e h = go (front_at (queue_of l) s) refl h (front_slot ls s e)
  where
    go : (o : Option Queued) → front_at (queue_of l) s ≡ o → or_else o (front_of ls s) ≡ Some e
        → (front_of ls s ≡ Some e → e.node.slot ≡ s) → e.node.slot ≡ s
    go (Some x) is h later = (front_shown l s e (is ∙ h)).slot
    go None is h later = later h

pub length-free : (ls : List (Option Ledger)) (n : NodeId) → length (free ls n) ≡ length ls
length-free [] n = refl
length-free (l ∷ ls) n = by (is_some (front_at (queue_of l) n.slot)) (length-free ls n)
  where
    by : (b : Bool) → length (free ls n) ≡ length ls
        → length (cond b (option_map (with_freed n) l ∷ ls) (l ∷ free ls n)) ≡ suc (length ls)
    by true later = refl
    by false later = ap (λ (y : ℕ). suc y) later

-- a front is the entry that a give speaks of
pub entry_is_front : (ls : List (Option Ledger)) (s : ℕ) (e : Queued) → front_of ls s ≡ Some e
    → queued_entry ls s ≡ Some e
entry_is_front ls s e h = rw h refl

-- ---- the ledgers of another are taken over

pub held-taken_over : (ls ms : List (Option Ledger)) (o : ℕ) → length ls ≡ length ms
    → held (taken_over ls ms) o ≡ or_else (held ms o) (held ls o)
held-taken_over [] [] o h = refl
held-taken_over [] (m ∷ ms) o h = absurd (omega arith)
held-taken_over (l ∷ ls) [] o h = absurd (omega arith)
held-taken_over (l ∷ ls) (m ∷ ms) zero h = refl
held-taken_over (l ∷ ls) (m ∷ ms) (suc o) h = held-taken_over ls ms o (omega arith)

pub length-taken_over : (ls ms : List (Option Ledger)) → length (taken_over ls ms) ≡ length ls
length-taken_over [] ms = refl
length-taken_over (l ∷ ls) [] = refl
length-taken_over (l ∷ ls) (m ∷ ms) = ap (λ (y : ℕ). suc y) (length-taken_over ls ms)
