-- Steps on the epoch and on announcements leave what a worker has in its hands, and, but for pins and
-- leaves, what it knows of nodes.
use Rattle.std.proofs.Common.{◌≡◌, ◌≢◌, ⊎_elim, ℕ, ◌==◌, Bool, true, false, List, [], ◌∷◌, ◌++◌, refl, sym, ap, subst, ◌∙◌, true≢false}
use Rattle.std.specs.Prelude.{Option, Some, None}
use Rattle.std.proofs.lemmas.Bool.{cond_both}
use Rattle.nm_model.specs.declared.knowledge.Brief.{Brief}
use Rattle.nm_model.specs.declared.event.Event.{Event}
use Rattle.nm_model.specs.declared.event.Event.TheVariants.{Sight, SightFor, Announce, Leave, LeaveWith, Scan, Advance}
use Rattle.nm_model.specs.declared.reply.Reply.{Reply}
use Rattle.nm_model.specs.declared.reply.Reply.TheVariants.{Saw, Labelled, Pinned, Missed, Announced, Departed, Idle, In, Moved, Behind}
use Rattle.nm_model.specs.Knowledge.{Knowledge}
use Rattle.nm_model.specs.Learning.{learn, learn_sight, learn_scan}
use Rattle.nm_model.specs.Step.{confirmed, reply_scan}
use Rattle.nm_model.specs.Walks.{Entry}
use Rattle.nm_steps.specs.Rules.{knowledge}
use Rattle.nm_steps.specs.Steps.{PassView, Stepped, IsSamePass, IsSight, sight_of}
use Rattle.nm_epoch.specs.Resting.{KeepsHands, epochs}
use Rattle.nm_epoch.specs.Scans.{LooksAt}
use Rattle.nm_steps.proofs.Presence.{known_after_step}

-- a step on the epoch or on an announcement
abbrev pub is_quiet : Event → Bool
is_quiet Sight = true
is_quiet (SightFor op key) = true
is_quiet Announce = true
is_quiet Leave = true
is_quiet (LeaveWith answer) = true
is_quiet (Scan u) = true
is_quiet Advance = true
is_quiet _ = false

abbrev pub is_label : Reply → Bool
is_label (Labelled e) = true
is_label _ = false

-- ---- one step

-- private slots stay, and if nothing is labelled, the ledgers do, and whether a cut waits for its
-- label
record Keeps (k l : Knowledge) (r : Reply) : Type 0 where
  drafts : l.drafts ≡ k.drafts
  ledgers : is_label r ≡ false → l.ledgers ≡ k.ledgers
  labelled : is_label r ≡ false → l.brief.unlabelled ≡ k.brief.unlabelled

as_it_was : (k : Knowledge) (r : Reply) → Keeps k k r
as_it_was k r = record { drafts = refl; ledgers = λ _. refl; labelled = λ _. refl }

sight_keeps : (k : Knowledge) (r : Reply) → Keeps k (learn_sight k r) r
sight_keeps k (Saw e) = record { drafts = refl; ledgers = λ _. refl; labelled = λ _. refl }
sight_keeps k (Labelled e) = record {
  drafts = refl;
  ledgers = λ is. absurd (true≢false is);
  labelled = λ is. absurd
      (true≢false is);
}
sight_keeps k (Pinned e) = record { drafts = refl; ledgers = λ _. refl; labelled = λ _. refl }
sight_keeps k (Missed e) = record { drafts = refl; ledgers = λ _. refl; labelled = λ _. refl }
sight_keeps k _ = as_it_was k _

scan_keeps : (k : Knowledge) (u : ℕ) (r : Reply) → Keeps k (learn_scan k u r) r
scan_keeps k u Idle = record { drafts = refl; ledgers = λ _. refl; labelled = λ _. refl }
scan_keeps k u (In e) = record { drafts = refl; ledgers = λ _. refl; labelled = λ _. refl }
scan_keeps k u _ = as_it_was k _

learn_keeps : (w : ℕ) (k : Knowledge) (e : Event) (r : Reply) → is_quiet e ≡ true → Keeps k (learn w k e r) r
unfolding learn
learn_keeps w k Sight r q = sight_keeps k r
learn_keeps w k (SightFor op key) r q = sight_keeps k r
learn_keeps w k Announce (Announced e) q = record { drafts = refl; ledgers = λ _. refl; labelled = λ _. refl }
learn_keeps w k Leave Departed q = record { drafts = refl; ledgers = λ _. refl; labelled = λ _. refl }
learn_keeps w k (LeaveWith answer) Departed q = record { drafts = refl; ledgers = λ _. refl; labelled = λ _. refl }
learn_keeps w k (Scan u) r q = scan_keeps k u r
learn_keeps w k Advance (Moved e) q = record { drafts = refl; ledgers = λ _. refl; labelled = λ _. refl }
learn_keeps w k Advance (Behind e) q = record { drafts = refl; ledgers = λ _. refl; labelled = λ _. refl }
learn_keeps w k Announce _ q = as_it_was k _
learn_keeps w k Leave _ q = as_it_was k _
learn_keeps w k (LeaveWith answer) _ q = as_it_was k _
learn_keeps w k Advance _ q = as_it_was k _
learn_keeps w k _ _ q = absurd (true≢false (sym q))

pub hands_kept : (p q : PassView) (e : Event) (r : Reply) → Stepped p q e r → is_quiet e ≡ true
    → ((epochs p).unlabelled ≡ false → is_label r ≡ false) → KeepsHands p q
hands_kept p q e r step quiet silent =
    let after = known_after_step p q e r step in
    let l = learn_keeps p.view.number (knowledge p.view) e r quiet in
    record {
      private = ap (λ (k : Knowledge). k.drafts) after ∙ l.drafts;
      labelled = λ none'. ap (λ (k : Knowledge). k.brief.unlabelled) after ∙ (l.labelled (silent none') ∙ none');
      ledgers = λ none'. ap (λ (k : Knowledge). k.ledgers) after ∙ l.ledgers (silent none');
    }

-- where no cut waits for its label, a sight labels nothing
pub sight_is_silent : (b : Brief) (r : Reply) → IsSight b r → b.unlabelled ≡ false → is_label r ≡ false
sight_is_silent b r s none' = ap is_label s.2 ∙ (ap is_label (is_confirmed s.0) ∙ never b.pin b.announcement s.0)
  where
    is_confirmed : (e : ℕ) → sight_of b e ≡ confirmed b.pin b.announcement e
    is_confirmed e = cond_both b.unlabelled (Labelled e) (confirmed b.pin b.announcement e)
        (λ y. y ≡ confirmed b.pin b.announcement e) (λ yes. absurd (true≢false (sym yes ∙ none'))) (λ _. refl)

    never : (pin announced : Option ℕ) (e : ℕ) → is_label (confirmed pin announced e) ≡ false
    never (Some p) announced e = refl
    never None None e = refl
    never None (Some a) e = cond_both (a == e) (Pinned e) (Missed e) (λ y. is_label y ≡ false) (λ _. refl) (λ _. refl)

-- ---- several steps

pub kept_on : (o p q : PassView) → KeepsHands o p → KeepsHands p q → KeepsHands o q
kept_on o p q a b = record {
  private = b.private ∙ a.private;
  labelled = λ none'. b.labelled (a.labelled none');
  ledgers = λ none'. b.ledgers (a.labelled none') ∙ a.ledgers none';
}

pub kept_still : (p : PassView) → KeepsHands p p
kept_still p = record { private = refl; labelled = λ none'. none'; ledgers = λ none'. refl }

scan_is_silent : (found : Option ℕ) → is_label (reply_scan found) ≡ false
scan_is_silent None = refl
scan_is_silent (Some e) = refl

-- ---- a look at a worker

module _ (me v : ℕ) (pin found : Option ℕ) (p q : PassView) (same : IsSamePass p q)
    (look : LooksAt me pin v found p.view.log q.view.log) where
  scanned : q.view.log ≡ p.view.log ++ (Scan v, reply_scan found) ∷ [] → Stepped p q (Scan v) (reply_scan found)
  scanned more = same ∙ ap (λ (log : List Entry). record p
      { view = record p.view { log = log; past = q.view.past; stores = q.view.stores } }) more

  unmoved : q.view.log ≡ p.view.log → q ≡ record p
      { view = record p.view { past = q.view.past; stores = q.view.stores } }
  unmoved none' = same ∙ ap (λ (log : List Entry). record p
      { view = record p.view { log = log; past = q.view.past; stores = q.view.stores } }) none'

  pub look_keeps : KeepsHands p q
  look_keeps = ⊎_elim
      (λ (own : (v ≡ me) × (found ≡ pin) × (q.view.log ≡ p.view.log)). subst (λ (x : PassView). KeepsHands p x)
      (sym (unmoved own.2)) (record { private = refl; labelled = λ none'. none'; ledgers = λ none'. refl }))
      (λ (other : (v ≢ me) × (q.view.log ≡ p.view.log ++ (Scan v, reply_scan found) ∷ [])). hands_kept p q (Scan v)
      (reply_scan found) (scanned other.1) refl (λ _. scan_is_silent found))
      look

  scan_known : (w : ℕ) (k : Knowledge) → (learn w k (Scan v) (reply_scan found)).known ≡ k.known
  unfolding learn
  scan_known w k = go found
    where
      go : (o : Option ℕ) → (learn w k (Scan v) (reply_scan o)).known ≡ k.known
      go None = refl
      go (Some e) = refl

  pub look_known : (knowledge q.view).known ≡ (knowledge p.view).known
  look_known = ⊎_elim
      (λ (own : (v ≡ me) × (found ≡ pin) × (q.view.log ≡ p.view.log)). ap
      (λ (x : PassView). (knowledge x.view).known) (unmoved own.2))
      (λ (other : (v ≢ me) × (q.view.log ≡ p.view.log ++ (Scan v, reply_scan found) ∷ [])). ap
      (λ (k : Knowledge). k.known) (known_after_step p q (Scan v) (reply_scan found) (scanned other.1))
      ∙ scan_known p.view.number (knowledge p.view))
      look
