-- The reply of each event that is allowed is told by what its worker knows and the word that it
-- finds: in every state of every run.
use Rattle.std.proofs.Common.{◌≡◌, ℕ, suc, ◌+◌, ◌-◌, ◌*◌, ◌%◌, ◌==◌, All, Bool, true, false, cond, List, ◌∷◌, [], map, refl, sym, ap, ap₂, ◌∙◌, arith, true≢false}
use Rattle.std.specs.Prelude.{Option, Some, None, IsSome, unwrap_or, bit_and}
use Rattle.std.proofs.lemmas.Bool.{eq-eqb, ne_eqb}
use Rattle.std.proofs.lemmas.Nat.{pow_pos}
use Rattle.nm_edge.specs.Edges.{Edge, edge_in}
use Rattle.nm_edge.specs.Layouts.{Layout}
use Rattle.nm_edge.specs.Words.{at_announcement, at_key, at_edge, at_birth, IsField, IsSlot, pool_place}
use Rattle.nm_edge.specs.declared.edge.Side.{Side}
use Rattle.nm_edge.specs.declared.node.NodeId.{NodeId}
use Rattle.nm_model.specs.declared.event.Event.{Event}
use Rattle.nm_model.specs.declared.event.Event.TheVariants.{Sight, SightFor, Announce, Leave, LeaveWith, Scan, Advance, Claim, Give, Look, Fill, Link, Flag, Tag, Splice, Swap, Join}
use Rattle.nm_model.specs.declared.event.Field.{Field as NodeField}
use Rattle.nm_model.specs.declared.event.Field.TheVariants.{Key, Edge as EdgeOn, Birth}
use Rattle.nm_model.specs.declared.reply.Reply.{Reply}
use Rattle.nm_model.specs.declared.reply.Reply.TheVariants.{Claimed, Taken, KeyIs, BirthIs, EdgeIs, Flagged, Was, Cut, Lost}
use Rattle.nm_model.specs.Memory.{Memory, node, edge, announcement, in_pool, named}
use Rattle.nm_model.specs.Knowledge.{way, cut_by}
use Rattle.nm_model.specs.Step.{reply, reply_look, reply_scan, reply_exchange, refusal}
use Rattle.nm_model.specs.Runs.{State, of, start, reply_of, after}
use Rattle.nm_model.specs.Laws.{OfEachState}
use Rattle.nm_steps.specs.Packing.{Fits, announcement_word, word_at, pool_word_at, touched_field, field_of}
use Rattle.nm_steps.specs.Told.{Births, BirthsAreIn, announced_in, known_as, BirthsAreKnown, told, told_look, RepliesAreTold}
use Rattle.nm_laws.proofs.Steps.{Allowed, allowed, passed}
use Rattle.nm_laws.proofs.Lawful.{IsLawful, lawful}
use Rattle.nm_steps.proofs.EdgeWords.{word_is_to, word_edge_in}
use Rattle.nm_steps.proofs.PackedReads.{field_read, each_bit_is_its_slot}
use Rattle.nm_steps.proofs.PackedEvents.{fits_of, touches_field, range}

announced_word : (o : Option ℕ) → announced_in (announcement_word o) ≡ o
announced_word None = refl
announced_word (Some e) = ap₂ (λ (b : Bool) (n : ℕ). cond b None (Some n))
    (ne_eqb (e + 1) 0 (λ z. absurd (omega (arith, z)))) (omega arith)

-- the answer to a look
look_told : (L : Layout) (m : Memory) (s : ℕ) (f : NodeField) → Fits L m → IsField L (field_of s f)
    → reply_look (node m s) f ≡ told_look f (word_at L m (field_of s f))
look_told L m s Key fits h = ap KeyIs (sym (field_read L m fits (at_key s) h))
look_told L m s (EdgeOn side) fits h = ap EdgeIs
    (sym (ap edge_in (field_read L m fits (at_edge s side) h) ∙ word_edge_in (edge m s side)))
look_told L m s Birth fits h = ap BirthIs (sym (field_read L m fits (at_birth s) h))

claim_told : (L : Layout) (m : Memory) (s : ℕ) → Fits L m → IsSlot L s
    → cond (in_pool m s) (Claimed s) Taken ≡ cond (bit_and (pool_word_at L m s) (pool_place L s).mask == 0) Taken
    (Claimed s)
claim_told L m s fits h = go (in_pool m s) ∙ ap (λ (n : ℕ). cond (n == 0) Taken (Claimed s))
    (sym (each_bit_is_its_slot L m s fits h))
  where
    go : (b : Bool) → cond b (Claimed s) Taken ≡ cond (cond b (pool_place L s).mask 0 == 0) Taken (Claimed s)
    go true = ap (λ (b : Bool). cond b Taken (Claimed s))
        (sym (ne_eqb (pool_place L s).mask 0 (λ z. absurd (let p = pow_pos ((s - 1) % 64) in omega (arith, z, p)))))
    go false = ap (λ (b : Bool). cond b Taken (Claimed s)) (sym (eq-eqb 0 0 refl))

-- an exchange, won or lost
exchange_told : (L : Layout) (m : Memory) (p : ℕ) (side : Side) (s : ℕ) (won won' : Reply) → Fits L m → IsSlot L p
    → won ≡ won'
    → reply_exchange (edge m p side) s won ≡ cond (word_at L m (at_edge p side) == 4 * s) won'
    (Lost (edge_in (word_at L m (at_edge p side))))
exchange_told L m p side s won won' fits h same =
    ap₂ (λ (b : Bool) (e : Edge). cond b won (Lost e)) (sym (word_is_to (edge m p side) s))
    (sym (word_edge_in (edge m p side)))
    ∙ ap₂ (λ (n : ℕ) (r : Reply). cond (n == 4 * s) r (Lost (edge_in n)))
    (sym (field_read L m fits (at_edge p side) h)) same

module _ (s : State) (k : IsLawful s) (w : ℕ) (births : Births) (stand : BirthsAreIn s.memory births) where
  -- a birth that is known is the one in memory
  node_known : (x : ℕ) → IsSome (births x) → named s.memory x ≡ known_as births x
  node_known x some = go (births x) refl some
    where
      go : (o : Option ℕ) → births x ≡ o → IsSome o → named s.memory x ≡ record { slot = x; birth = unwrap_or o 0 }
      go None at none = absurd (true≢false (sym none))
      go (Some b) at yes' = ap (λ (n : ℕ). record { slot = x; birth = n }) (stand x b at)

  nodes_known : (xs : List ℕ) → All (λ x. IsSome (births x)) xs → map (named s.memory) xs ≡ map (known_as births) xs
  nodes_known [] all = refl
  nodes_known (x ∷ xs) all = ap₂ (λ (n : NodeId) (ns : List NodeId). n ∷ ns) (node_known x (all 0 x (omega arith)))
      (nodes_known xs (λ i d h. all (suc i) d (omega (arith, h))))

  reply_told : (e : Event) → Allowed s w e → BirthsAreKnown s.layout (of s w) births e
      → reply_of s w e ≡ told s.layout (of s w) births e (word_at s.layout s.memory (touched_field w e))
  unfolding refusal reply
  reply_told e ok known = go e ok (touches_field s k.holder k.law w e ok) known
    where
      fits : Fits s.layout s.memory
      fits = fits_of s k.holder k.law

      go : (e : Event) → Allowed s w e → IsField s.layout (touched_field w e)
          → BirthsAreKnown s.layout (of s w) births e → reply_of s w e
          ≡ told s.layout (of s w) births e (word_at s.layout s.memory (touched_field w e))
      go Sight ok at known = refl
      go (SightFor op key) ok at known = refl
      go Announce ok at known = refl
      go Leave ok at known = refl
      go (LeaveWith answer) ok at known = refl
      go (Scan u) ok at known = ap reply_scan (sym (ap announced_in
          (field_read s.layout s.memory fits (at_announcement u) at) ∙ announced_word (announcement s.memory u)))
      go Advance ok at known = refl
      go (Claim x) ok at known = claim_told s.layout s.memory x fits
          (range s k.holder k.law w x (passed _ _ _ ok.event).0)
      go (Give x) ok at known = refl
      go (Look x f) ok at known = look_told s.layout s.memory x f fits at
      go (Fill x f v) ok at known = refl
      go (Link p side leaf new) ok at known = exchange_told s.layout s.memory p side leaf _ _ fits at refl
      go (Flag p side leaf) ok at known = exchange_told s.layout s.memory p side leaf _ _ fits at
          (ap Flagged (node_known leaf known))
      go (Tag p side) ok at known = ap Was (sym (ap edge_in (field_read s.layout s.memory fits (at_edge p side) at)
          ∙ word_edge_in (edge s.memory p side)))
      go (Splice a side x p keep) ok at known = exchange_told s.layout s.memory a side x _ _ fits at
          (ap Cut (nodes_known (cut_by (of s w) x (unwrap_or (way s.layout.nodes (of s w) x p) []) keep) known))
      go (Swap p side leaf new) ok at known =
          exchange_told s.layout s.memory p side leaf _ _ fits at
          (ap (λ (n : NodeId). Cut (n ∷ [])) (node_known leaf known))
      go (Join v) ok at known = absurd known

pub each_reply_is_told : OfEachState RepliesAreTold
each_reply_is_told L enough turns w e births stand none known =
    reply_told (after (start L) turns) (lawful L enough turns) w births stand e
    (allowed (after (start L) turns) w e none) known
