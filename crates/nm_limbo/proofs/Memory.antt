-- What the walks of a list's unsafe functions share. Assumes `Logic`.
--     block_out, block_in      the places of one block are taken out of the list's, and put back with one place changed
--     block_seen               and are seen behind a `&`
--     places_grow, deeds_grow  a block joins the list at the end
--     last_out, last_in        the last link is taken out, and put back as it leads on to one more block
--     pointer_out, pointer_in, stale      a link is its cell, and the cell is room
use mathlib.Core.Path.{◌≡◌, refl, sym, ap, ◌∙◌}
use Prim.Native.Nat.{ℕ, zero, suc, ◌+◌, ◌*◌, ◌<◌, ◌≤◌}
use native.Mathlib.Omega.{arith}
use mathlib.Core.List.{List, [], ◌∷◌, ◌++◌}
use lib.ListN.{length, take, drop, set, get_or, length-drop}
use lib.Seq.{drop-drop, take-set-lt, take-set-le, drop-set-lt, drop-set-add, take_all, take-append-le, drop-append-le}
use seplogic.Ra.Ura.{Ura}
use base.Fraction.{full_share}
use mir.Syntax.{Ty, ty_ptr}
use mir.Val.{Val}
use base.Logic.{ent, sep, fst∗, id⊢}
use base.Fml.{Fml, Lft, ftrue, fsep, feq, fat, froom}
use types.Logic.{Logic, sem}
use types.Kit.{Item, Goal, Step, step, ‵, some, ◌⊛◌, ◌$◌, ◌∵◌, !, qed, move, use1, use2, use3, pick, split, fsplit, fjoin, feq_i, feq_l, rewrite, done}
use denote.Memory.{part_at}
use denote.RattleType.{RattleType}
use denote.RawPtr.{Ptr, RawPtr, null_ptr, ptr_val}
use denote.Steps.{only}
use borrow.Table.OneValue.{part_in, part_out}
use Rattle.core.proofs.mem.Param.{El, R}
use Rattle.core.proofs.alloc.Calls.{Al}
use Rattle.core.proofs.slots.Leases.{P}
use Rattle.circular_buffer.specs.Ownership.{cells_own, cells_lent}
use Rattle.circular_buffer.proofs.Memory.{Place}
use Rattle.nm_limbo.specs.Blocks.{first_block_of}
use Rattle.nm_limbo.specs.Ownership.{link_owns, links_own, places_of, deed_owns, deeds_own, places_own, chain_lent}
use Rattle.nm_limbo.specs.contracts.block.chain.Chain as Chain

module _ (E : El) (Z : Al) where
  abbrev pub Ch : RattleType
  Ch = Chain.the_row (R E) (P E Z) Z.g

-- where the k-th block lies
abbrev pub nth : List Ptr → ℕ → Ptr
nth ps k = get_or ps k null_ptr

pub first_nth : (ps : List Ptr) → first_block_of ps ≡ nth ps 0
first_nth [] = refl
first_nth (p ∷ ps) = refl

-- the blocks after the first
pub past_first : (ps : List Ptr) → 0 < length ps → (rest : List Ptr) × (ps ≡ first_block_of ps ∷ rest)
past_first [] lt = absurd (omega arith)
past_first (p ∷ ps) lt = (ps, refl)

module _ (E : El) where
  abbrev pub Cells : Ptr → List (Place E) → Fml
  Cells p cs = cells_own (R E) (places_of (R E) p) cs

  -- the places of the blocks but for the k-th
  abbrev pub Others : ℕ → List Ptr → List (Place E) → Fml
  Others k [] cs = ftrue
  Others zero (p ∷ ps) cs = places_own (R E) ps (drop 32 cs)
  Others (suc k) (p ∷ ps) cs = fsep (Cells p (take 32 cs)) (Others k ps (drop 32 cs))

module _ (E : El) {M : Type 1} {𝓤 : Ura M} (𝓛 : Logic 𝓤) where
  abbrev pub Own : List Ptr → List (Place E) → Fml
  Own = places_own (R E)

  pub block_out : (k : ℕ) (ps : List Ptr) (cs : List (Place E)) (at : ℕ) → k < length ps → at ≡ 32 * k
      → ent 𝓤 (sem 𝓛 (Own ps cs)) (sep 𝓤 (sem 𝓛 (Cells E (nth ps k) (take 32 (drop at cs)))) (sem 𝓛 (Others E k ps cs)))
  block_out k [] cs at lt e = absurd (omega arith)
  block_out zero (p ∷ ps) cs at lt e = let none : 0 ≡ at = omega arith in
      qed 𝓛 (‵ (Own (p ∷ ps) cs) ∷ []) ∵ fsplit ! $ rewrite ! 0 (λ (n : ℕ). ‵ (Cells E p (take 32 (drop n cs)))) none
      refl $ done !
  block_out (suc k) (p ∷ ps) cs at lt e = let on : 32 + 32 * k ≡ at = omega arith in
      qed 𝓛 (‵ (Own (p ∷ ps) cs) ∷ []) ∵ fsplit ! $ move ! (1 ∷ []) $
      use1 𝓛 (‵ (Cells E (nth ps k) (take 32 (drop (32 * k) (drop 32 cs)))) ⊛ ‵ (Others E k ps (drop 32 cs)))
      (block_out k ps (drop 32 cs) (32 * k) (omega arith) refl) $ split ! $
      rewrite ! 0 (λ (ds : List (Place E)). ‵ (Cells E (nth ps k) (take 32 ds)))
      (drop-drop (32 * k) 32 cs ∙ ap (λ n. drop n cs) on) refl $
      move ! (2 ∷ 1 ∷ []) $ fjoin ! $ move ! (1 ∷ []) $ done !

  pub block_in : (k : ℕ) (ps : List Ptr) (cs : List (Place E)) (at i : ℕ) (c : Place E) → k < length ps → at ≡ 32 * k
      → i < 32
      → ent 𝓤 (sep 𝓤 (sem 𝓛 (Cells E (nth ps k) (set (take 32 (drop at cs)) i c))) (sem 𝓛 (Others E k ps cs)))
      (sem 𝓛 (Own ps (set cs (at + i) c)))
  block_in k [] cs at i c lt e within = absurd (omega arith)
  block_in zero (p ∷ ps) cs at i c lt e within = let none : at ≡ 0 = omega arith in
      let same : i ≡ at + i = omega arith in
      qed 𝓛 (‵ (Cells E p (set (take 32 (drop at cs)) i c)) ∷ ‵ (Own ps (drop 32 cs)) ∷ []) ∵
      rewrite ! 0 (λ (n : ℕ). ‵ (Cells E p (set (take 32 (drop n cs)) i c))) none refl $
      rewrite ! 0 (λ (ds : List (Place E)). ‵ (Cells E p ds)) (sym (take-set-lt 32 cs i c within)) refl $
      rewrite ! 1 (λ (ds : List (Place E)). ‵ (Own ps ds)) (sym (drop-set-lt 32 cs i c within)) refl $ fjoin ! $
      rewrite ! 0 (λ (n : ℕ). ‵ (Own (p ∷ ps) (set cs n c))) same refl $ done !
  block_in (suc k) (p ∷ ps) cs at i c lt e within =
      let on : at ≡ 32 + 32 * k = omega arith in let sum : 32 + (32 * k + i) ≡ at + i = omega arith in
      qed 𝓛 (‵ (Cells E (nth ps k) (set (take 32 (drop at cs)) i c)) ∷ ‵ (Others E (suc k) (p ∷ ps) cs) ∷ []) ∵
      rewrite ! 0 (λ (ds : List (Place E)). ‵ (Cells E (nth ps k) (set (take 32 ds) i c)))
      (ap (λ n. drop n cs) on ∙ sym (drop-drop (32 * k) 32 cs)) refl $ move ! (1 ∷ []) $ fsplit ! $ move !
      (2 ∷ 1 ∷ []) $
      use2 𝓛 (‵ (Own ps (set (drop 32 cs) (32 * k + i) c)))
      (block_in k ps (drop 32 cs) (32 * k) i c (omega arith) refl within) $
      rewrite ! 0 (λ (ds : List (Place E)). ‵ (Own ps ds)) (sym (drop-set-add 32 cs (32 * k + i) c)) refl $ move !
      (1 ∷ []) $
      rewrite ! 0 (λ (ds : List (Place E)). ‵ (Cells E p ds))
      (sym (take-set-le 32 cs (32 + (32 * k + i)) c (omega arith))) refl $ fjoin ! $
      rewrite ! 0 (λ (n : ℕ). ‵ (Own (p ∷ ps) (set cs n c))) sum refl $ done !

  pub first_seen : (κ : Lft) (p : Ptr) (ps : List Ptr) (cs : List (Place E))
      → ent 𝓤 (sem 𝓛 (chain_lent (R E) (p ∷ ps) cs κ)) (sem 𝓛 (cells_lent (R E) (places_of (R E) p) (take 32 cs) κ))
  first_seen κ p ps cs = fst∗ 𝓤 _ (sem 𝓛 (chain_lent (R E) ps (drop 32 cs) κ))

  pub places_grow : (ps : List Ptr) (cs : List (Place E)) (p : Ptr) (ds : List (Place E))
      → length cs ≡ 32 * length ps → length ds ≡ 32
      → ent 𝓤 (sep 𝓤 (sem 𝓛 (Own ps cs)) (sem 𝓛 (Cells E p ds))) (sem 𝓛 (Own (ps ++ p ∷ []) (cs ++ ds)))
  places_grow [] [] p ds le ld = let whole : ds ≡ take 32 ds = sym (take_all 32 ds (omega arith)) in
      qed 𝓛 (‵ ftrue ∷ ‵ (Cells E p ds) ∷ []) ∵ move ! (1 ∷ 0 ∷ []) $ rewrite ! 0
      (λ (es : List (Place E)). ‵ (Cells E p es)) whole refl $ fjoin ! $ done !
  places_grow [] (c ∷ cs) p ds le ld = absurd (omega arith)
  places_grow (q ∷ ps) cs p ds le ld =
      let far : 32 ≤ length cs = omega arith in
      qed 𝓛 (‵ (Own (q ∷ ps) cs) ∷ ‵ (Cells E p ds) ∷ []) ∵ fsplit ! $ move ! (1 ∷ 2 ∷ []) $
      use2 𝓛 (‵ (Own (ps ++ p ∷ []) (drop 32 cs ++ ds)))
      (places_grow ps (drop 32 cs) p ds (omega (arith, length-drop 32 cs)) ld) $
      rewrite ! 0 (λ (es : List (Place E)). ‵ (Own (ps ++ p ∷ []) es)) (sym (drop-append-le 32 cs ds far)) refl $
      move ! (1 ∷ []) $
      rewrite ! 0 (λ (es : List (Place E)). ‵ (Cells E q es)) (sym (take-append-le 32 cs ds far)) refl $ fjoin ! $
      done !

  pub deeds_grow : (token : Ty → Ptr → Fml) (ps : List Ptr) (p : Ptr)
      → ent 𝓤 (sep 𝓤 (sem 𝓛 (deeds_own (R E) token ps)) (sem 𝓛 (deed_owns (R E) token p)))
      (sem 𝓛 (deeds_own (R E) token (ps ++ p ∷ [])))
  deeds_grow token [] p = qed 𝓛 (‵ ftrue ∷ ‵ (deed_owns (R E) token p) ∷ []) ∵ move ! (1 ∷ 0 ∷ []) $ fjoin ! $ done !
  deeds_grow token (q ∷ ps) p = qed 𝓛 (‵ (deeds_own (R E) token (q ∷ ps)) ∷ ‵ (deed_owns (R E) token p) ∷ []) ∵
      fsplit ! $ move ! (1 ∷ 2 ∷ []) $
      use2 𝓛 (‵ (deeds_own (R E) token (ps ++ p ∷ []))) (deeds_grow token ps p) $ move ! (1 ∷ 0 ∷ []) $ fjoin ! $ done !

-- the links but for the last
abbrev pub Upto : List Ptr → Fml
Upto [] = ftrue
Upto (p ∷ []) = ftrue
Upto (p ∷ q ∷ ps) = fsep (link_owns p q) (Upto (q ∷ ps))

module _ {M : Type 1} {𝓤 : Ura M} (𝓛 : Logic 𝓤) where
  pub last_out : (n : ℕ) (ps : List Ptr) → length ps ≡ n + 1
      → ent 𝓤 (sem 𝓛 (links_own ps)) (sep 𝓤 (sem 𝓛 (link_owns (nth ps n) null_ptr)) (sem 𝓛 (Upto ps)))
  last_out n [] e = absurd (omega arith)
  last_out zero (p ∷ []) e = id⊢ 𝓤 _
  last_out (suc n) (p ∷ []) e = absurd (omega arith)
  last_out zero (p ∷ q ∷ ps) e = absurd (omega arith)
  last_out (suc n) (p ∷ q ∷ ps) e = qed 𝓛 (‵ (links_own (p ∷ q ∷ ps)) ∷ []) ∵ fsplit ! $ move ! (1 ∷ []) $
      use1 𝓛 (‵ (link_owns (nth (q ∷ ps) n) null_ptr) ⊛ ‵ (Upto (q ∷ ps))) (last_out n (q ∷ ps) (omega arith)) $
      split ! $ move ! (2 ∷ 1 ∷ []) $ fjoin ! $ move ! (1 ∷ []) $ done !

  pub last_in : (n : ℕ) (ps : List Ptr) (t : Ptr) → length ps ≡ n + 1
      → ent 𝓤 (sep 𝓤 (sem 𝓛 (link_owns (nth ps n) t)) (sep 𝓤 (sem 𝓛 (link_owns t null_ptr)) (sem 𝓛 (Upto ps))))
      (sem 𝓛 (links_own (ps ++ t ∷ [])))
  last_in n [] t e = absurd (omega arith)
  last_in zero (p ∷ []) t e = qed 𝓛 (‵ (link_owns p t) ∷ ‵ (link_owns t null_ptr) ∷ ‵ ftrue ∷ []) ∵ move !
      (1 ∷ 2 ∷ []) $ fjoin ! $ move ! (1 ∷ 0 ∷ []) $ fjoin ! $ done !
  last_in (suc n) (p ∷ []) t e = absurd (omega arith)
  last_in zero (p ∷ q ∷ ps) t e = absurd (omega arith)
  last_in (suc n) (p ∷ q ∷ ps) t e = qed 𝓛 (‵ (link_owns (nth (q ∷ ps) n) t) ∷ ‵ (link_owns t null_ptr)
      ∷ ‵ (Upto (p ∷ q ∷ ps)) ∷ []) ∵ move ! (2 ∷ []) $ fsplit ! $ move ! (2 ∷ 3 ∷ 1 ∷ []) $
      use3 𝓛 (‵ (links_own ((q ∷ ps) ++ t ∷ []))) (last_in n (q ∷ ps) t (omega arith)) $ move ! (1 ∷ 0 ∷ []) $ fjoin
      ! $ done !

-- the cell of a link
abbrev pub pointer : ℕ → ℕ → Ptr → Fml
pointer b o p = fat full_share ty_ptr b o (ptr_val p)

module _ {M : Type 1} {𝓤 : Ura M} {𝓛 : Logic 𝓤} {K : Type 0} {Γ : List (Item 𝓤)} {G : Goal 𝓤 𝓛.H} where
  pub pointer_out : K → (p : Ptr) (b o : ℕ) → Step K 𝓛 (‵ (pointer b o p) ∷ Γ) G
      (‵ (part_at RawPtr full_share p b o) ∷ Γ) G
  pointer_out t p b o = use1 𝓛 (‵ (pointer b o p))
      (qed 𝓛 (‵ (part_at RawPtr full_share p b o) ∷ []) {P = sem 𝓛 (pointer b o p)} (
      use1 𝓛 (some (λ (v : Val). ‵ (fat full_share ty_ptr b o v) ⊛ ‵ (feq (List Val) (v ∷ []) (ptr_val p ∷ []))))
      (part_out 𝓛 RawPtr refl full_share p b o) $ pick ! (λ v. split ! $ move ! (1 ∷ []) $ feq_l ! (λ e.
      rewrite ! 0 (λ (w : Val). ‵ (fat full_share ty_ptr b o w)) (ap only e) refl $ done !))))

  pub pointer_in : K → (p : Ptr) (b o : ℕ) → Step K 𝓛 (‵ (part_at RawPtr full_share p b o) ∷ Γ) G
      (‵ (pointer b o p) ∷ Γ) G
  pointer_in t p b o = step (λ s.
      feq_i t (List Val) (ptr_val p ∷ []) (ptr_val p ∷ []) refl $ move t (1 ∷ 0 ∷ []) $ use2 𝓛
      (‵ (part_at RawPtr full_share p b o)) (part_in 𝓛 RawPtr refl full_share p b o (ptr_val p)) $ s)

  -- a link's cell, whatever it holds, is room
  pub stale : K → (p : Ptr) (b o : ℕ) → Step K 𝓛 (‵ (froom ty_ptr b o) ∷ Γ) G (‵ (pointer b o p) ∷ Γ) G
  stale t p b o = use1 𝓛 (‵ (froom ty_ptr b o)) (𝓛.laws.at_room ty_ptr b o (ptr_val p))
