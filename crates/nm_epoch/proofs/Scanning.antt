-- What a look at one worker's announcement leaves, and how the looks at all of them go on.
use Rattle.std.proofs.Common.{◌≡◌, ◌≢◌, ◌⊎◌, ◌+◌, ◌<◌, inl, inr, ⊎_elim, ℕ, suc, Bool, true, false, List, [], ◌∷◌, ◌++◌, length, get_or, set, sym, ap, subst, ◌∙◌, add-one, arith}
use Rattle.std.specs.Prelude.{Option, Some, slice_set}
use Rattle.std.proofs.lemmas.List.{get_or-set_same, get_or-set_other}
use mathlib.Core.Logic.{dite}
use native.Mathlib.Decide.{ℕ_discrete}
use Rattle.nm_model.specs.declared.event.Event.{Event}
use Rattle.nm_model.specs.declared.event.Event.TheVariants.{Scan}
use Rattle.nm_model.specs.declared.knowledge.Brief.{Brief}
use Rattle.nm_model.specs.declared.reply.Reply.{Reply}
use Rattle.nm_model.specs.Searches.{searched}
use Rattle.nm_model.specs.Walks.{Entry}
use Rattle.nm_model.specs.Step.{reply_scan}
use Rattle.nm_steps.specs.Steps.{PassView, Stepped, IsSamePass}
use Rattle.nm_epoch.specs.Resting.{Settles, epochs, search}
use Rattle.nm_epoch.proofs.Marks.{marks, IsLooking, one_for_each, marks_after}
use Rattle.nm_epoch.specs.Scans.{LooksAt, SightThenScans, lets_pass}
use Rattle.nm_epoch.proofs.Entries.{epochs_after, search_is}
use Rattle.nm_epoch.proofs.KeptHands.{look_known}

-- ---- one look

abbrev with_log : PassView → PassView → List Entry → PassView
with_log p q log = record p { view = record p.view { log = log; past = q.view.past; stores = q.view.stores } }

stepped_by : (p q : PassView) (e : Event) (r : Reply) → IsSamePass p q → q.view.log ≡ p.view.log ++ (e, r) ∷ []
    → Stepped p q e r
stepped_by p q e r same more = same ∙ ap (λ (log : List Entry). with_log p q log) more

stays_put : (p q : PassView) → IsSamePass p q → q.view.log ≡ p.view.log → q ≡ with_log p q p.view.log
stays_put p q same none = same ∙ ap (λ (log : List Entry). with_log p q log) none

module _ (me v : ℕ) (pin found : Option ℕ) (p q : PassView) (same : IsSamePass p q)
    (look : LooksAt me pin v found p.view.log q.view.log) where
  pub look_epochs : epochs q ≡ epochs p
  look_epochs = ⊎_elim
      (λ (own : (v ≡ me) × (found ≡ pin) × (q.view.log ≡ p.view.log)). ap (λ (x : PassView). epochs x)
      (stays_put p q same own.2))
      (λ (other : (v ≢ me) × (q.view.log ≡ p.view.log ++ (Scan v, reply_scan found) ∷ [])). epochs_after p q (Scan v)
      (reply_scan found) (stepped_by p q (Scan v) (reply_scan found) same other.1))
      look

  pub look_search : search q ≡ search p
  unfolding searched
  look_search = ⊎_elim
      (λ (own : (v ≡ me) × (found ≡ pin) × (q.view.log ≡ p.view.log)). ap (λ (x : PassView). search x)
      (stays_put p q same own.2))
      (λ (other : (v ≢ me) × (q.view.log ≡ p.view.log ++ (Scan v, reply_scan found) ∷ [])). search_is p q (Scan v)
      (reply_scan found) (stepped_by p q (Scan v) (reply_scan found) same other.1))
      look

  look_marks : (e : ℕ) → (epochs p).seen ≡ Some e → ((v ≡ me) × (marks q ≡ marks p))
      ⊎ (marks q ≡ slice_set (marks p) v (lets_pass found e))
  look_marks e seen = ⊎_elim
      (λ (own : (v ≡ me) × (found ≡ pin) × (q.view.log ≡ p.view.log)). inl
      (own.0, ap (λ (x : PassView). marks x) (stays_put p q same own.2)))
      (λ (other : (v ≢ me) × (q.view.log ≡ p.view.log ++ (Scan v, reply_scan found) ∷ [])). inr
      (marks_after p q v e found (stepped_by p q (Scan v) (reply_scan found) same other.1) seen))
      look

  -- what a sight settled stays settled
  pub settles_on : (o : PassView) → Settles o p → Settles o q
  settles_on o s = record {
    labelled = ap (λ (b : Brief). b.unlabelled) look_epochs ∙ s.labelled;
    stays = λ settled. let t = s.stays settled in record {
      announcement = ap (λ (b : Brief). b.announcement) look_epochs ∙ t.announcement;
      pin = ap (λ (b : Brief). b.pin) look_epochs ∙ t.pin;
      search = look_search ∙ t.search;
      known = look_known me v pin found p q same look ∙ t.known;
    };
  }

  -- one more is marked
  marked_on : (e : ℕ) → (epochs p).seen ≡ Some e → lets_pass found e ≡ true → v < length (marks p)
      → ((u : ℕ) → u < v → (u ≡ me) ⊎ (get_or (marks p) u false ≡ true)) → (u : ℕ) → u < v + 1
      → (u ≡ me) ⊎ (get_or (marks q) u false ≡ true)
  marked_on e seen lets below old u most = dite (ℕ_discrete u v)
      (λ (here : u ≡ v). ⊎_elim (λ (own : (v ≡ me) × (marks q ≡ marks p)). inl (here ∙ own.0))
      (λ (is : marks q ≡ slice_set (marks p) v (lets_pass found e)). inr
      (ap (λ (ms : List Bool). get_or ms u false) is
      ∙ (ap (λ (i : ℕ). get_or (set (marks p) v (lets_pass found e)) i false) here
      ∙ (get_or-set_same (marks p) v (lets_pass found e) false below ∙ lets))))
      (look_marks e seen))
      (λ (ne : u ≢ v). ⊎_elim (λ (own : u ≡ me). inl own)
      (λ (h : get_or (marks p) u false ≡ true). inr (⊎_elim
      (λ (x : (v ≡ me) × (marks q ≡ marks p)). ap (λ (ms : List Bool). get_or ms u false) x.1 ∙ h)
      (λ (is : marks q ≡ slice_set (marks p) v (lets_pass found e)). ap (λ (ms : List Bool). get_or ms u false) is
      ∙ (get_or-set_other (marks p) v u (lets_pass found e) false ne ∙ h)) (look_marks e seen)))
      (old u (omega arith)))

-- ---- all looks

pub looking_on : (me e v : ℕ) (found : Option ℕ) (old : List Entry) (p q : PassView) → IsSamePass p q
    → LooksAt me (epochs p).pin v found p.view.log q.view.log → lets_pass found e ≡ true → v < p.view.layout.workers
    → IsLooking me e v old p → IsLooking me e (v + 1) old q
looking_on me e v found old p q same look lets below h =
    let still : epochs q ≡ epochs p = look_epochs me v (epochs p).pin found p q same look in
    let pin : (epochs p).pin ≡ (epochs q).pin = sym (ap (λ (b : Brief). b.pin) still) in
    let sighted = h.part in
    let more : SightThenScans me (epochs p).pin e (suc v) old q.view.log =
    (sighted.0, sighted.1, (p.view.log, found, sighted.2, look, lets)) in
    record {
      part = subst (λ (o : Option ℕ). SightThenScans me o e (v + 1) old q.view.log) pin (rw (add-one v) more);
      seen = ap (λ (b : Brief). b.seen) still ∙ h.seen;
      own = λ less. subst (λ (o : Option ℕ). lets_pass o e ≡ true) pin (dite (ℕ_discrete v me)
          (λ (here : v ≡ me). ⊎_elim (λ (x : (v ≡ me) × (found ≡ (epochs p).pin) × (q.view.log ≡ p.view.log)). subst
          (λ (o : Option ℕ). lets_pass o e ≡ true) x.1 lets)
          (λ (x : (v ≢ me) × (q.view.log ≡ p.view.log ++ (Scan v, reply_scan found) ∷ [])). absurd (x.0 here)) look)
          (λ (ne : v ≢ me). h.own (omega arith)));
      marked = marked_on me v (epochs p).pin found p q same look e h.seen lets (rw (one_for_each p) below) h.marked;
    }
