-- The value of a leaf that was read before the flag is the one that it has at the flag.
use Rattle.std.proofs.Common.{◌≡◌, ◌≤◌, ℕ, List, ◌∷◌, [], ◌++◌, refl, sym, subst, ◌∙◌}
use Rattle.std.specs.Prelude.{Result, Ok, Err, IfOk, IfErr}
use Rattle.nm_edge.specs.Keys.{IsKey}
use Rattle.nm_model.specs.declared.event.Event.TheVariants.{Flag, Look}
use Rattle.nm_model.specs.declared.event.Field.TheVariants.{Birth}
use Rattle.nm_model.specs.declared.event.Op.TheVariants.{Delete}
use Rattle.nm_model.specs.declared.reply.Reply.TheVariants.{BirthIs, Flagged}
use Rattle.nm_model.specs.Walks.{Entry}
use Rattle.nm_order.specs.Facts.Since.{ThePin}
use Rattle.nm_order.specs.Facts.Fact.{CallIs, EndedAt, KnowsLeaf, KnowsSlot}
use Rattle.nm_steps.specs.Rules.{value_of}
use Rattle.nm_steps.specs.Steps.{PassView}
use Rattle.nm_walks.specs.declared.seek_record.WalkEnd.{WalkEnd}
use Rattle.nm_walks.specs.Telling.{GoesOn, OnlyLooks}
use Rattle.nm_calls.specs.declared.deleting.Deletion.{Deletion}
use Rattle.nm_calls.specs.declared.deleting.Injected.{Injected}
use Rattle.nm_calls.specs.declared.deleting.Injected.TheVariants as injected
use Rattle.nm_calls.specs.declared.fault.CallFault.{CallFault}
use Rattle.nm_calls.specs.Deletes.{HasWonItsFlag, IfFlagged, MayFlag, leaf_of}
use Rattle.nm_calls.specs.Maps.{HasReadFlagged, HasSeenValue}
use Rattle.nm_calls.proofs.Forks.{going_continues}
use Rattle.nm_calls.proofs.TakenValues.{read_since}
use Rattle.nm_puts.specs.Removing.{AsDelete, outcome_of}
use Rattle.nm_puts.specs.Swaps.{IsUnderPin, ValueWas}
use Rattle.nm_puts.proofs.LaterValues.{value_later}
use Rattle.nm_puts.proofs.UnderPins.{under_then, under_these}

-- a flag after a look at the value
pub flag_later : (p q : PassView) (k : ℕ) (r : WalkEnd) → MayFlag p k r → GoesOn p q → OnlyLooks p q → MayFlag q k r
flag_later p q k r may on only = record {
  parent = on.keeps (KnowsSlot r.seek_record.parent) may.parent;
  known = on.keeps (KnowsSlot r.seek_record.edge.slot) may.known;
  leaf = on.keeps (KnowsLeaf r.seek_record.edge.slot) may.leaf;
  high = may.high;
  within = subst (λ (s : PassView). r.seek_record.edge.slot ≤ s.view.layout.nodes) (sym on.same) may.within;
  call = on.keeps (CallIs Delete k) may.call;
  ended = on.keeps (EndedAt ThePin k r.seek_record.edge.slot r.seek_record.parent r.seek_record.side k) may.ended;
  unflagged = only.flagged ∙ may.unflagged;
}

-- ---- by the result

pub if_ok : {A E : Type 0} (P Q : A → Type 0) → ((a : A) → P a → Q a) → (r : Result A E) → IfOk r P → IfOk r Q
if_ok P Q f (Ok a) h = f a h
if_ok P Q f (Err e) h = tt

pub if_err : {A E : Type 0} (P Q : E → Type 0) → ((e : E) → P e → Q e) → (r : Result A E) → IfErr r P → IfErr r Q
if_err P Q f (Ok a) h = tt
if_err P Q f (Err e) h = f e h

pub as_outcome : (P : Result Deletion CallFault → Type 0) (d : Result Deletion CallFault) → P d
    → AsDelete (outcome_of d) P
as_outcome P (Ok d) h = h
as_outcome P (Err e) h = h

-- ---- the value at the flag

-- the look at the birth and the flag are under the pin
flag_under : (p q : PassView) (r : WalkEnd) (b : ℕ) → HasWonItsFlag p q r b → IsUnderPin p.view.log q.view.log
flag_under p q r b won =
    let looked : List Entry = p.view.log ++ (Look r.seek_record.edge.slot Birth, BirthIs b) ∷ [] in
    under_then p.view.log looked q.view.log
    (under_these ((Look r.seek_record.edge.slot Birth, BirthIs b) ∷ []) p.view.log looked refl refl)
    (under_these ((
      Flag r.seek_record.parent r.seek_record.side r.seek_record.edge.slot,
      Flagged (leaf_of r b),
    ) ∷ []) looked q.view.log won.part refl)

module _ (o p q : PassView) (k v x : ℕ) (r : WalkEnd) (is_key : IsKey k)
    (was : ValueWas p p k r.seek_record.edge.slot v) (since : GoesOn o p) (on : GoesOn p q) where
  same_value : (b : ℕ) → HasWonItsFlag p q r b → HasSeenValue q r.seek_record.edge.slot x → x ≡ v
  same_value b won seen =
      seen.1 ∙ sym (subst (λ (n : ℕ). v ≡ value_of q.view.stores n) was.at
      (value_later p q since.run.fits (going_continues p q on) (flag_under p q r b won) seen.0 k v is_key was.read))

  pub read_expected : (i : Injected) → IfFlagged i ((b : ℕ) × HasWonItsFlag p q r b)
      → IfFlagged i (HasSeenValue q r.seek_record.edge.slot x) → IfFlagged i (HasReadFlagged p q k x)
      → IfFlagged i (HasReadFlagged o q k v)
  read_expected (injected.Flagged e b) won seen read =
      read_since o p q k v (going_continues o p since)
      (subst (λ (n : ℕ). HasReadFlagged p q k n) (same_value won.0 won.1 seen) read)
  read_expected injected.Absent won seen read = tt
  read_expected injected.Lost won seen read = tt
