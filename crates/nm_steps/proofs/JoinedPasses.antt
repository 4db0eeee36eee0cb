-- What a join leaves of a pass.
use Rattle.std.proofs.Common.{◌≡◌, ℕ, ◌+◌, ◌<◌, ◌==◌, true, List, [], length, refl, sym, ap, ◌∙◌, subst}
use Rattle.std.specs.Prelude.{Option}
use Rattle.std.proofs.lemmas.Bool.{cond_both}
use Rattle.atomic_table.specs.declared.shared.Seat.{Seat}
use Rattle.nm_edge.specs.Layouts.{IsLayout}
use Rattle.nm_edge.specs.Words.{at_announcement, word}
use Rattle.nm_model.specs.declared.event.Event.TheVariants.{Join}
use Rattle.nm_model.specs.declared.trace.Turn.{Turn}
use Rattle.nm_model.specs.declared.knowledge.Brief.{Brief}
use Rattle.nm_model.specs.declared.reply.Reply.TheVariants.{Joined}
use Rattle.nm_model.specs.declared.knowledge.Draft.{Draft}
use Rattle.nm_model.specs.declared.ledger.Ledger.{Ledger}
use Rattle.nm_model.specs.Knowledge.{Knowledge, is_private}
use Rattle.nm_model.specs.Learning.{learn, resigned, inheriting}
use Rattle.nm_model.specs.Maps.{has}
use Rattle.nm_order.specs.Hands.{IsPooled}
use Rattle.nm_steps.specs.declared.view.Stored.{Stored}
use Rattle.nm_steps.specs.declared.view.View.{View}
use Rattle.nm_steps.specs.Rules.{StoredBefore, knowledge, joined, joining_view, passing, Extends, ExtendsStores}
use Rattle.nm_steps.specs.Steps.{Tied, HasSeen}
use Rattle.nm_steps.specs.Ties.{HasSeenBoth}
use Rattle.nm_steps.proofs.Noting.{brief_is_noted}
use Rattle.nm_steps.proofs.Presence.{known_push}

-- a join leaves the private slots
drafts_stay : (w v : ℕ) (k : Knowledge) (ls : List (Option Ledger)) → (learn w k (Join v) (Joined ls)).drafts ≡ k.drafts
unfolding learn
drafts_stay w v k ls = cond_both (w == v) (resigned k) (inheriting k ls) (λ (x : Knowledge). x.drafts ≡ k.drafts)
    (λ _. refl) (λ _. refl)

-- the seat after the join, and after the read behind it
module _ (it mid after : Seat Unit View) (number announcement : ℕ) (brief : Brief) (w : View)
    (tied : Tied it number announcement brief) (me : mid.me ≡ (joining_view it.me.0 w, it.me.1))
    (slots : after.me.1 ≡ mid.me.1) (both : HasSeenBoth mid.me.0 after.me.0) where
  abbrev now : List Turn
  now = after.me.0.past

  abbrev st : List Stored
  st = after.me.0.stores

  view : after.me.0 ≡ record (joined it.me.0 w) { past = now; heard = []; stores = st; heard_stores = [] }
  view = both.is ∙ ap (λ (m : View × List (ℕ × Unit)). record m.0
      { past = now; heard = []; stores = st; heard_stores = [] }) me

  -- the first pass with the joined view: its epochs are as they were, and its log ends with the
  -- join
  pub joined_tied : HasSeen after.me.0 → StoredBefore after.me.0.number (length after.me.0.log + 1) after.me.0.stores
      → Tied after number announcement brief
  joined_tied seen stored =
      let drafts : (knowledge (joined it.me.0 w)).drafts ≡ (knowledge it.me.0).drafts =
      ap (λ (k : Knowledge). k.drafts) (known_push it.me.0.number it.me.0.layout it.me.0.log (passing w))
      ∙ drafts_stay it.me.0.number w.number (knowledge it.me.0) (knowledge w).ledgers in
      record {
        empty = slots ∙ (ap (λ m. m.1) me ∙ tied.empty);
        alive = ap (λ (v : View). v.resigned) view ∙ tied.alive;
        number_is = tied.number_is ∙ sym (ap (λ (v : View). v.number) view);
        announcement_is = tied.announcement_is ∙ sym (ap (λ (v : View). word v.layout (at_announcement number)) view);
        brief_is =
            tied.brief_is
            ∙ (sym (brief_is_noted it.me.0.number (knowledge it.me.0) (Join w.number) (Joined (knowledge w).ledgers))
            ∙ (sym (ap (λ (k : Knowledge). k.brief) (known_push it.me.0.number it.me.0.layout it.me.0.log
            (passing w))) ∙ sym (ap (λ (v : View). (knowledge v).brief) view)));
        fits = subst (λ (v : View). IsLayout v.layout) (sym view) tied.fits;
        worker = subst (λ (v : View). number < v.layout.workers) (sym view) tied.worker;
        small = tied.small;
        private = subst (λ (v : View). (x : ℕ) → is_private (knowledge v) x ≡ true → IsPooled v.layout x) (sym view)
            (λ x h. tied.private x (ap (λ (d : List (ℕ × Draft)). has d x) (sym drafts) ∙ h));
        seen = seen;
        heard = ap (λ (v : View). v.heard) view;
        heard_stores = ap (λ (v : View). v.heard_stores) view;
        stored = stored;
      }

  pub joined_view : after.me.0 ≡ record (joined it.me.0 w) { past = now; stores = st }
  joined_view = view ∙ (λ i. record (joined it.me.0 w)
      { past = now; heard = sym tied.heard i; stores = st; heard_stores = sym tied.heard_stores i })

  -- it has seen what both had seen
  pub joined_past : Extends now it.me.0.past
  joined_past = subst (λ (m : View × List (ℕ × Unit)). Extends now m.0.past) me both.past

  pub joined_stored : ExtendsStores st it.me.0.stores
  joined_stored = subst (λ (m : View × List (ℕ × Unit)). ExtendsStores st m.0.stores) me both.stores

  pub joined_of_stores : ExtendsStores st w.stores
  joined_of_stores = subst (λ (m : View × List (ℕ × Unit)). ExtendsStores st m.0.heard_stores) me both.heard_stores

  pub joined_heard : Extends now w.past
  joined_heard = subst (λ (m : View × List (ℕ × Unit)). Extends now m.0.heard) me both.heard
