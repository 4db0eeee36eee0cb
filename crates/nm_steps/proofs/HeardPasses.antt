-- What a note leaves of the pass that hears it.
use Rattle.std.proofs.Common.{◌≡◌, ℕ, ◌+◌, ◌<◌, true, List, [], length, sym, ap, ◌∙◌, subst}
use Rattle.atomic_table.specs.declared.shared.Seat.{Seat}
use Rattle.nm_edge.specs.Layouts.{IsLayout}
use Rattle.nm_edge.specs.Words.{at_announcement, word}
use Rattle.nm_model.specs.declared.trace.Turn.{Turn}
use Rattle.nm_model.specs.declared.knowledge.Brief.{Brief}
use Rattle.nm_model.specs.Knowledge.{is_private}
use Rattle.nm_order.specs.Hands.{IsPooled}
use Rattle.nm_steps.specs.declared.view.Stored.{Stored}
use Rattle.nm_steps.specs.declared.view.View.{View}
use Rattle.nm_steps.specs.Rules.{StoredBefore, knowledge, informed, Extends, ExtendsStores}
use Rattle.nm_steps.specs.Steps.{Tied, HasSeen}
use Rattle.nm_steps.specs.Ties.{HasSeenBoth}

-- the seat after it was told, and after the read behind it
module _ (it mid after : Seat Unit View) (number announcement : ℕ) (brief : Brief) (w : View)
    (tied : Tied it number announcement brief) (me : mid.me ≡ (informed it.me.0 w, it.me.1))
    (slots : after.me.1 ≡ mid.me.1) (both : HasSeenBoth mid.me.0 after.me.0) where
  abbrev now : List Turn
  now = after.me.0.past

  abbrev st : List Stored
  st = after.me.0.stores

  view : after.me.0 ≡ record it.me.0 { past = now; heard = []; stores = st; heard_stores = [] }
  view = both.is ∙ ap (λ (m : View × List (ℕ × Unit)). record m.0
      { past = now; heard = []; stores = st; heard_stores = [] }) me

  pub heard_tied : HasSeen after.me.0 → StoredBefore after.me.0.number (length after.me.0.log + 1) after.me.0.stores
      → Tied after number announcement brief
  heard_tied seen stored = record {
    empty = slots ∙ (ap (λ m. m.1) me ∙ tied.empty);
    alive = ap (λ (v : View). v.resigned) view ∙ tied.alive;
    number_is = tied.number_is ∙ sym (ap (λ (v : View). v.number) view);
    announcement_is = tied.announcement_is ∙ sym (ap (λ (v : View). word v.layout (at_announcement number)) view);
    brief_is = tied.brief_is ∙ sym (ap (λ (v : View). (knowledge v).brief) view);
    fits = subst (λ (v : View). IsLayout v.layout) (sym view) tied.fits;
    worker = subst (λ (v : View). number < v.layout.workers) (sym view) tied.worker;
    small = tied.small;
    private = subst (λ (v : View). (x : ℕ) → is_private (knowledge v) x ≡ true → IsPooled v.layout x) (sym view)
        tied.private;
    seen = seen;
    heard = ap (λ (v : View). v.heard) view;
    heard_stores = ap (λ (v : View). v.heard_stores) view;
    stored = stored;
  }

  pub heard_view : after.me.0 ≡ record it.me.0 { past = now; stores = st }
  heard_view = view ∙ (λ i. record it.me.0 {
    past = now;
    heard = sym tied.heard i;
    stores = st;
    heard_stores = sym
        tied.heard_stores i;
  })

  pub heard_past : Extends now it.me.0.past
  heard_past = subst (λ (m : View × List (ℕ × Unit)). Extends now m.0.past) me both.past

  pub heard_stored : ExtendsStores st it.me.0.stores
  heard_stored = subst (λ (m : View × List (ℕ × Unit)). ExtendsStores st m.0.stores) me both.stores

  pub heard_of_stores : ExtendsStores st w.stores
  heard_of_stores = subst (λ (m : View × List (ℕ × Unit)). ExtendsStores st m.0.heard_stores) me both.heard_stores

  pub heard_note : Extends now w.past
  heard_note = subst (λ (m : View × List (ℕ × Unit)). Extends now m.0.heard) me both.heard
