-- The words at each moment are those that the turns have written: what an event writes is told by
-- it and by its reply.
use Rattle.std.proofs.Common.{◌≡◌, ℕ, ◌+◌, Bool, true, false, cond, List, [], ◌∷◌, set, refl, sym, ap, ◌∙◌}
use Rattle.std.specs.Prelude.{Option, Some, None, Ok, Err}
use Rattle.std.proofs.lemmas.List.{set-get_or}
use Rattle.nm_edge.specs.Edges.{to, is_to, untagged}
use Rattle.nm_edge.specs.Layouts.{Layout, IsLayout}
use Rattle.nm_edge.specs.declared.edge.Side.{Side}
use Rattle.nm_model.specs.declared.event.Field.TheVariants.{Key, Edge as EdgeOn, Birth}
use Rattle.nm_model.specs.declared.event.Event.{Event}
use Rattle.nm_model.specs.declared.event.Event.TheVariants.{Sight, SightFor, Announce, Leave, LeaveWith, Scan, Advance, Claim, Give, Look, Fill, Link, Flag, Tag, Splice, Join, Swap}
use Rattle.nm_model.specs.declared.reply.Reply.TheVariants.{Moved, Behind, Claimed, Taken, Returned, Freed, Linked, Flagged, Cut, Lost}
use Rattle.nm_model.specs.declared.reply.Refused.{Refused}
use Rattle.nm_model.specs.Maps.{is_number}
use Rattle.nm_model.specs.Memory.{Memory, edge, in_pool, named, put_edge, opening}
use Rattle.nm_model.specs.Knowledge.{is_private, read}
use Rattle.nm_model.specs.Learning.{flag_to}
use Rattle.nm_model.specs.Ledgers.{front_of}
use Rattle.nm_model.specs.Step.{reply, write, kept, cut_nodes, node_linked, node_of}
use Rattle.nm_model.specs.Runs.{State, of, reply_of}
use Rattle.nm_model.specs.Ordered.{Configuration, opening_of, refused_in, next_in, applied_in, after_in, trace_in}
use Rattle.nm_laws.proofs.Steps.{Allowed, allowed}
use Rattle.nm_laws.proofs.Cuts.{shown}
use Rattle.nm_laws.proofs.TreeSlots.{tag_known}
use Rattle.nm_laws.proofs.TreeSteps.{Lawful}
use Rattle.nm_laws.proofs.Lawful.{IsLawful}
use Rattle.nm_laws.proofs.Configurations.{refused_next, refused_outcome, allowed_next, allowed_outcome, opening_state, allowed_by_state}
use Rattle.nm_model.specs.Headline.{written, after_turn, words_from, words_after}
use Rattle.nm_theorem.specs.EachRun.{WordsAreWritten}
use Rattle.nm_theorem.proofs.Runs.{told_in, lawful_opening, lawful_next}
use Rattle.nm_order.proofs.CallWalks.{memory_after}

put_back : (m : Memory) (s : ℕ) (b : Bool) → in_pool m s ≡ b → record m { pool = set m.pool s b } ≡ m
put_back m s b is = ap (λ (xs : List Bool). record m { pool = xs })
    (ap (λ (x : Bool). set m.pool s x) (sym is) ∙ set-get_or m.pool s false)

module _ (s : State) (h : ℕ → ℕ) (law : Lawful s h) (w : ℕ) where
  abbrev m : Memory
  m = s.memory

  -- a won splice leaves the parent's edge without its tag
  kept_is : (a : ℕ) (d : Side) (x p : ℕ) (keep : Side) → Allowed s w (Splice a d x p keep)
      → is_to (edge s.memory a d) x ≡ true → kept (read (of s w) p keep) ≡ untagged (edge s.memory p keep)
  kept_is a d x p keep ok won = ap kept (tag_known s.layout.nodes s.memory (of s) h w p keep law.tree
      (shown s h law w a d x p keep ok won).tag)

  pub told_writes : (e : Event) → Allowed s w e → written s.memory w e (Ok (reply_of s w e))
      ≡ write s.memory (of s w) w e
  unfolding reply write
  told_writes Sight ok = refl
  told_writes (SightFor op key) ok = refl
  told_writes Announce ok = refl
  told_writes Leave ok = refl
  told_writes (LeaveWith answer) ok = refl
  told_writes (Scan u) ok = refl
  told_writes Advance ok = go (is_number (of s w).brief.seen m.epoch)
    where
      go : (b : Bool) → written s.memory w Advance (Ok (cond b (Moved (s.memory.epoch + 1)) (Behind s.memory.epoch)))
          ≡ cond b (record s.memory { epoch = s.memory.epoch + 1 }) s.memory
      go true = refl
      go false = refl
  told_writes (Claim x) ok = go (in_pool m x) refl
    where
      go : (b : Bool) → in_pool s.memory x ≡ b → written s.memory w (Claim x) (Ok (cond b (Claimed x) Taken))
          ≡ record s.memory { pool = set s.memory.pool x false }
      go true is = refl
      go false is = sym (put_back s.memory x false is)
  told_writes (Give x) ok = go (is_private (of s w) x)
    where
      go : (b : Bool) → written s.memory w (Give x) (Ok
          (cond b (Returned x) (Freed (node_of (front_of (of s w).ledgers x)))))
          ≡ record s.memory { pool = set s.memory.pool x true }
      go true = refl
      go false = refl
  told_writes (Look x f) ok = refl
  told_writes (Fill x Key v) ok = refl
  told_writes (Fill x (EdgeOn side) v) ok = refl
  told_writes (Fill x Birth v) ok = refl
  told_writes (Link p side leaf new) ok = go (is_to (edge m p side) leaf)
    where
      go : (b : Bool) → written s.memory w (Link p side leaf new)
          (Ok (cond b (Linked (node_linked (of s w) new)) (Lost (edge s.memory p side))))
          ≡ cond b (put_edge s.memory p side (to new)) s.memory
      go true = refl
      go false = refl
  told_writes (Flag p side leaf) ok = go (is_to (edge m p side) leaf)
    where
      go : (b : Bool) → written s.memory w (Flag p side leaf)
          (Ok (cond b (Flagged (named s.memory leaf)) (Lost (edge s.memory p side))))
          ≡ cond b (put_edge s.memory p side (flag_to leaf)) s.memory
      go true = refl
      go false = refl
  told_writes (Tag p side) ok = refl
  told_writes (Splice a d x p keep) ok = go (is_to (edge m a d) x) refl
    where
      go : (b : Bool) → is_to (edge s.memory a d) x ≡ b
          → written s.memory w (Splice a d x p keep) (Ok
          (cond b (Cut (cut_nodes s.layout s.memory (of s w) x p keep)) (Lost (edge s.memory a d))))
          ≡ cond b (put_edge s.memory a d (kept (read (of s w) p keep))) s.memory
      go true won = ap (put_edge s.memory a d) (sym (kept_is a d x p keep ok won))
      go false none = refl
  told_writes (Swap p side leaf new) ok = go (is_to (edge m p side) leaf)
    where
      go : (b : Bool) → written s.memory w (Swap p side leaf new)
          (Ok (cond b (Cut (named s.memory leaf ∷ [])) (Lost (edge s.memory p side)))) ≡ cond b
          (put_edge s.memory p side (to new)) s.memory
      go true = refl
      go false = refl
  told_writes (Join v) ok = refl

-- ---- a turn

none_written : (m : Memory) (w : ℕ) (e : Event) (q : Refused) → written m w e (Err q) ≡ m
none_written m w Announce q = refl
none_written m w Leave q = refl
none_written m w (LeaveWith answer) q = refl
none_written m w Advance q = refl
none_written m w (Claim x) q = refl
none_written m w (Give x) q = refl
none_written m w (Fill x Key v) q = refl
none_written m w (Fill x (EdgeOn side) v) q = refl
none_written m w (Fill x Birth v) q = refl
none_written m w (Link p side leaf new) q = refl
none_written m w (Flag p side leaf) q = refl
none_written m w (Tag p side) q = refl
none_written m w (Splice a d x p keep) q = refl
none_written m w (Swap p d leaf new) q = refl
none_written m w e q = refl

pub turn_writes : (c : Configuration) (t : ℕ × Event) → IsLawful c.state
    → after_turn c.state.memory (told_in c t) ≡ (next_in c t).state.memory
unfolding applied_in
turn_writes c t lawful = go (refused_in c t.0 t.1) refl
  where
    after_applied : (applied_in c t.0 t.1).state.memory ≡ write c.state.memory (of c.state t.0) t.0 t.1
    after_applied = memory_after c.state t.0 t.1

    go : (o : Option Refused) → refused_in c t.0 t.1 ≡ o
        → after_turn c.state.memory (told_in c t) ≡ (next_in c t).state.memory
    go (Some r) is = ap (written c.state.memory t.0 t.1) (refused_outcome c t r is)
        ∙ (none_written c.state.memory t.0 t.1 r ∙ ap (λ (d : Configuration). d.state.memory)
        (sym (refused_next c t r is)))
    go None is = ap (written c.state.memory t.0 t.1) (allowed_outcome c t is)
        ∙ (told_writes c.state lawful.holder lawful.law t.0 t.1
        (allowed c.state t.0 t.1 (allowed_by_state c t.0 t.1 is))
        ∙ (sym after_applied ∙ ap (λ (d : Configuration). d.state.memory) (sym (allowed_next c t is))))

pub words_are : (ts : List (ℕ × Event)) (c : Configuration) → IsLawful c.state
    → words_from c.state.memory (trace_in c ts) ≡ (after_in c ts).state.memory
unfolding after_in trace_in
words_are [] c lawful = refl
words_are (t ∷ ts) c lawful = ap (λ (m : Memory). words_from m (trace_in (next_in c t) ts)) (turn_writes c t lawful)
    ∙ words_are ts (next_in c t) (lawful_next c t lawful)

pub opening_words : (L : Layout) (b : Bool) → (opening_of L b).state.memory ≡ opening L
opening_words L b = ap (λ (s : State). s.memory) (opening_state L b)

pub run_words : (L : Layout) → IsLayout L → (b : Bool) (ts : List (ℕ × Event))
    → words_after L (trace_in (opening_of L b) ts) ≡ (after_in (opening_of L b) ts).state.memory
run_words L fits b ts = ap (λ (m : Memory). words_from m (trace_in (opening_of L b) ts)) (sym (opening_words L b))
    ∙ words_are ts (opening_of L b) (lawful_opening L fits b)

pub words_are_written : WordsAreWritten
words_are_written L fits b ts keys = sym (run_words L fits b ts)
