-- The marks of a worker, one for each worker, and what a scan leaves of them.
use Rattle.std.proofs.Common.{◌≡◌, ◌⊎◌, ◌+◌, ◌<◌, ◌==◌, inl, inr, ℕ, suc, Bool, true, false, ◌||◌, ◌&&◌, List, [], ◌∷◌, length, get_or, refl, sym, ap, ◌∙◌, eq-eqb, true≢false, arith}
use Rattle.std.specs.Prelude.{Option, Some, None, slice_set, slice_index_or}
use Rattle.std.specs.List.{list_all, enumerate_from}
use Rattle.std.proofs.lemmas.List.{length-set, length-replicate}
use Rattle.nm_model.specs.declared.event.Event.TheVariants.{Scan}
use Rattle.nm_model.specs.Maps.{is_number}
use Rattle.nm_model.specs.Knowledge.{Knowledge, newcomer}
use Rattle.nm_model.specs.Learning.{learn}
use Rattle.nm_model.specs.Answers.{IsRow}
use Rattle.nm_model.specs.Step.{others_scanned, reply_scan}
use Rattle.nm_model.specs.Walks.{Entry}
use Rattle.nm_laws.proofs.Learned.{learn_idle, learn_in}
use Rattle.nm_laws.proofs.Shapes.{row_learn}
use Rattle.nm_order.specs.Logs.{known_after}
use Rattle.nm_steps.specs.Rules.{knowledge}
use Rattle.nm_steps.specs.Steps.{PassView, Stepped}
use Rattle.nm_steps.proofs.Presence.{known_push}
use Rattle.nm_epoch.specs.Resting.{epochs}
use Rattle.nm_epoch.specs.Scans.{lets_pass, SightThenScans}

-- by worker, whether it was scanned at the epoch last read
abbrev pub marks : PassView → List Bool
marks p = (knowledge p.view).scanned

-- how far an advance has come: those below n let it pass, and are marked as scanned, or are the own
-- worker
pub record IsLooking (me e n : ℕ) (old : List Entry) (p : PassView) : Type 0 where
  pub part : SightThenScans me (epochs p).pin e n old p.view.log
  pub seen : (epochs p).seen ≡ Some e
  pub own : me < n → lets_pass (epochs p).pin e ≡ true
  pub marked : (v : ℕ) → v < n → (v ≡ me) ⊎ (slice_index_or (marks p) v false ≡ true)

-- ---- one for each worker

pub row_after : (n w : ℕ) (k : Knowledge) (log : List Entry) → IsRow n k → IsRow n (known_after w k log)
row_after n w k [] h = h
row_after n w k (x ∷ log) h = row_after n w (learn w k x.0 x.1) log (row_learn n w k x.0 x.1 h)

pub one_for_each : (p : PassView) → length (marks p) ≡ p.view.layout.workers
one_for_each p = (row_after p.view.layout.workers p.view.number (newcomer p.view.layout p.view.number) p.view.log
    (record {
      scanned = length-replicate p.view.layout.workers false;
      ledgers = length-set _ _ _ ∙ length-replicate p.view.layout.workers None;
    })).scanned

-- ---- a scan

scan_marks : (w : ℕ) (k : Knowledge) (v e : ℕ) (found : Option ℕ) → k.brief.seen ≡ Some e
    → (learn w k (Scan v) (reply_scan found)).scanned ≡ slice_set k.scanned v (lets_pass found e)
scan_marks w k v e None seen = ap (λ (x : Knowledge). x.scanned) (learn_idle w k v)
scan_marks w k v e (Some a) seen = ap (λ (x : Knowledge). x.scanned) (learn_in w k v a)
    ∙ ap (λ (o : Option ℕ). slice_set k.scanned v (is_number o a)) seen

pub marks_after : (p q : PassView) (v e : ℕ) (found : Option ℕ) → Stepped p q (Scan v) (reply_scan found)
    → (epochs p).seen ≡ Some e → marks q ≡ slice_set (marks p) v (lets_pass found e)
marks_after p q v e found step seen =
    ap (λ (x : PassView). marks x) step
    ∙ (ap (λ (k : Knowledge). k.scanned) (known_push p.view.number p.view.layout p.view.log
    (Scan v, reply_scan found)) ∙ scan_marks p.view.number (knowledge p.view) v e found seen)

-- ---- all others

scanned_or_own : (b : Bool) (v me : ℕ) → (v ≡ me) ⊎ (b ≡ true) → (b || (v == me)) ≡ true
scanned_or_own true v me h = refl
scanned_or_own false v me (inl own) = eq-eqb v me own
scanned_or_own false v me (inr marked) = absurd (true≢false (sym marked))

both_hold : (a b : Bool) → a ≡ true → b ≡ true → (a && b) ≡ true
both_hold a b x y = ap (λ (c : Bool). c && b) x ∙ y

all_from : (me n : ℕ) (ms : List Bool) → ((v : ℕ) → v < length ms → (n + v ≡ me) ⊎ (get_or ms v false ≡ true))
    → list_all (λ mark. mark.1 || (mark.0 == me)) (enumerate_from n ms) ≡ true
all_from me n [] h = refl
all_from me n (m ∷ ms) h = both_hold _ _ (scanned_or_own m n me (first (h 0 (omega arith))))
    (all_from me (n + 1) ms (λ v below. later v (h (suc v) (omega arith))))
  where
    first : (n + 0 ≡ me) ⊎ (m ≡ true) → (n ≡ me) ⊎ (m ≡ true)
    first (inl is) = inl (omega arith)
    first (inr is) = inr is

    later : (v : ℕ) → (n + suc v ≡ me) ⊎ (get_or ms v false ≡ true) → (n + 1 + v ≡ me) ⊎ (get_or ms v false ≡ true)
    later v (inl is) = inl (omega arith)
    later v (inr is) = inr is

pub all_others : (me : ℕ) (ms : List Bool) → ((v : ℕ) → v < length ms → (v ≡ me) ⊎ (get_or ms v false ≡ true))
    → others_scanned me ms ≡ true
all_others me ms h = all_from me 0 ms (λ v below. from_zero v (h v below))
  where
    from_zero : (v : ℕ) → (v ≡ me) ⊎ (get_or ms v false ≡ true) → (0 + v ≡ me) ⊎ (get_or ms v false ≡ true)
    from_zero v (inl is) = inl (omega arith)
    from_zero v (inr is) = inr is
