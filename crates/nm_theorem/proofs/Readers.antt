-- That nobody reads another node, of turns that have the headline: each touch was told of under the
-- pin that stands, and what was told stays at each moment.
use Rattle.std.proofs.Common.{◌≡◌, ℕ, ◌==◌, Bool, true, false, ◌||◌, List, ◌∷◌, ◌++◌, append_assoc, refl, sym, ap, subst, ◌∙◌, true≢false}
use Rattle.std.specs.Prelude.{Option, Some, None, Result}
use Rattle.std.specs.List.{list_any}
use Rattle.std.proofs.lemmas.Bool.{and_parts, false_from_ne_true}
use Rattle.std.proofs.lemmas.List.Folds.{list_any-append}
use Rattle.nm_model.specs.declared.event.Event.{Event}
use Rattle.nm_model.specs.declared.event.Event.TheVariants.{Leave, LeaveWith}
use Rattle.nm_model.specs.declared.reply.Reply.{Reply}
use Rattle.nm_model.specs.declared.reply.Refused.{Refused}
use Rattle.nm_model.specs.declared.trace.Turn.{Turn}
use Rattle.nm_model.specs.Headline.{departs, leaves, edge_told, IsPinned, HasLeft, WasTold, IsStill}
use Rattle.nm_theorem.specs.EachRun.{NobodyReadsAnotherNode}

no_pair : {x : ℕ × ℕ} → ◌≡◌ {A = Option (ℕ × ℕ)} None (Some x) → ⊥
no_pair e = cc

leave_tells_none : (e : Event) (o : Result Reply Refused) (z : ℕ × ℕ) → departs e o ≡ true → edge_told e o ≡ Some z → ⊥
leave_tells_none Leave o z is told = no_pair told
leave_tells_none (LeaveWith answer) o z is told = no_pair told
leave_tells_none e o z is told = true≢false (sym is)

-- who was pinned before turns by which it does not leave is pinned behind them
pinned_still : (w : ℕ) (before since : List Turn) → IsPinned w before → (HasLeft w since → ⊥)
    → IsPinned w (before ++ since)
pinned_still w before since p stays = record {
  before = p.before;
  sight = p.sight;
  since = p.since ++ since;
  are = ap (λ (ts : List Turn). ts ++ since) p.are ∙ append_assoc p.before (p.sight ∷ p.since) since;
  own = p.own;
  pins = p.pins;
  stays = λ left. by (list_any (leaves w) p.since) (list_any (leaves w) since)
      (false_from_ne_true (list_any (leaves w) p.since) p.stays) (false_from_ne_true (list_any (leaves w) since) stays)
      (sym (list_any-append (leaves w) p.since since) ∙ left);
}
  where
    by : (a b : Bool) → a ≡ false → b ≡ false → (a || b) ≡ true → ⊥
    by false false a b is = true≢false (sym is)
    by true b a none is = true≢false a
    by false true a none is = true≢false none

pub nobody_reads_another : NobodyReadsAnotherNode
nobody_reads_another L turns h before rest t r x all answer touches six free =
    record { told = told; pinned = pinned; still = still }
  where
    told : WasTold L t.worker x before
    told = h.told before rest t r x all answer touches six free

    pinned : IsPinned t.worker before
    pinned = subst (λ (us : List Turn). IsPinned t.worker us) (sym told.are)
        (pinned_still t.worker told.before (told.told ∷ told.since) told.pinned
        (λ left. by (leaves t.worker told.told) refl left))
      where
        by : (one : Bool) → leaves t.worker told.told ≡ one
            → (leaves t.worker told.told || list_any (leaves t.worker) told.since) ≡ true → ⊥
        by true one left = leave_tells_none told.told.event told.told.outcome (told.from, x)
            (and_parts (told.told.worker == t.worker) (departs told.told.event told.told.outcome) one).1 told.edge
        by false one left = told.stays (ap (λ (z : Bool). z || list_any (leaves t.worker) told.since) (sym one) ∙ left)

    still : (some rest' : List Turn) → told.since ≡ some ++ rest'
        → IsStill L told.before (told.before ++ told.told ∷ some) x
    still some rest' since = h.stays (told.before ++ told.told ∷ some) (rest' ++ t ∷ rest) whole t.worker x (record {
      before = told.before;
      told = told.told;
      since = some;
      are = refl;
      own = told.own;
      pinned = told.pinned;
      from = told.from;
      edge = told.edge;
      free = told.free;
      stays = λ left. told.stays (ap (list_any (leaves t.worker)) since
          ∙ (list_any-append (leaves t.worker) some rest'
          ∙ ap (λ (z : Bool). z || list_any (leaves t.worker) rest') left));
    })
      where
        whole : turns ≡ (told.before ++ told.told ∷ some) ++ (rest' ++ t ∷ rest)
        whole = all ∙ (ap (λ (us : List Turn). us ++ t ∷ rest) told.are
            ∙ (append_assoc told.before (told.told ∷ told.since) (t ∷ rest)
            ∙ (ap (λ (us : List Turn). told.before ++ told.told ∷ us)
            (ap (λ (us : List Turn). us ++ t ∷ rest) since ∙ append_assoc some rest' (t ∷ rest))
            ∙ sym (append_assoc told.before (told.told ∷ some) (rest' ++ t ∷ rest)))))
