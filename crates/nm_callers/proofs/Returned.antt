-- Each value that a collection hands out has come back.
use Rattle.std.proofs.Common.{◌≡◌, inl, inr, ℕ, zero, suc, Bool, List, [], ◌∷◌, ◌++◌, refl, sym, subst, arith}
use Rattle.std.specs.Prelude.{Contains}
use Rattle.std.proofs.lemmas.List.Elements.{All-contains, Contains-append_cases, Contains-append_left, Contains-append_right}
use Rattle.nm_steps.specs.declared.view.View.{View}
use Rattle.nm_epoch.specs.declared.collecting.Entry.{Entry}
use Rattle.nm_epoch.specs.declared.collecting.HeldQueue.{HeldQueue}
use Rattle.nm_calls.specs.HandedBack.{WasCutWith}
use Rattle.nm_epoch.specs.declared.handing.HandedOut.{HandedOut}
use Rattle.nm_tree.specs.Handing.{GiveBack, LeavesCollectValues, WereCutWith}
use Rattle.nm_tree.specs.Running.{IsFreedInGrace}
use Rattle.nm_tree.specs.Workers.{WorkerView}
use Rattle.nm_callers.specs.Returning.{HasComeBack}

-- the entry whose leaf had a value
record Had (v : View) (es : List Entry) (n : ℕ) : Type 0 where
  entry : Entry
  among : Contains es entry
  cut : WasCutWith v.layout v.past v.stores entry.node n

had_by : (v : View) (es : List Entry) (ns : List ℕ) (n : ℕ) → WereCutWith v es ns → Contains ns n → Had v es n
had_by v [] ns n r c = absurd (let none' : Contains [] n = subst
    (λ (l : List ℕ). Contains l n) r c in let below = none'.1 in omega (arith, below))
had_by v (e ∷ es) ns n (inl (inner, rest)) c = later (had_by v es ns n rest c)
  where
    later : Had v es n → Had v (e ∷ es) n
    later s = record { entry = s.entry; among = Contains-append_right (e ∷ []) es s.entry s.among; cut = s.cut }
had_by v (e ∷ es) ns n (inr (m, more, are, cut, rest)) c =
    elim (Contains-append_cases (m ∷ []) more n (subst (λ (l : List ℕ). Contains l n) are c)) [
      | inl here ↦ record {
        entry = e;
        among = (0, omega arith, refl);
        cut = subst
            (λ (k : ℕ). WasCutWith v.layout v.past v.stores e.node k) (only m n here) cut;
      }
      | inr there ↦ (let s = had_by v es more n rest there in record
          { entry = s.entry; among = Contains-append_right (e ∷ []) es s.entry s.among; cut = s.cut })
    ]
  where
    only : (a b : ℕ) → Contains (a ∷ []) b → a ≡ b
    only a b (zero, below, at) = at
    only a b (suc i, below, at) = absurd (omega (arith, below))

all_back : (epoch : ℕ) (v : View) (hs gs : List HeldQueue) (es : List Entry) (ns : List ℕ)
    → GiveBack epoch v hs gs es ns → ((e : Entry) → Contains es e → IsFreedInGrace v e.node) → (n : ℕ)
    → Contains ns n → HasComeBack v n
all_back epoch v [] [] es ns d grace n there = absurd
    (let none' : Contains [] n = subst (λ (l : List ℕ). Contains l n) d.1 there in let below = none'.1 in
    omega (arith, below))
all_back epoch v [] (g ∷ gs) es ns d grace n there = absurd d
all_back epoch v (h ∷ hs) [] es ns d grace n there = absurd d
all_back epoch v (h ∷ hs) (g ∷ gs) es ns (fs, ws, more, later, freed, values, one, rest) grace n there =
    elim (Contains-append_cases ws later n (subst (λ (l : List ℕ). Contains l n) values there)) [
      | inl here ↦ (
          let r = had_by v fs ws n one.back here in
          let among : Contains (fs ++ more) r.entry = Contains-append_left fs more r.entry r.among in
          record {
            node = r.entry.node;
            cut = r.cut;
            freed = grace r.entry
                (subst (λ (l : List Entry). Contains l r.entry) (sym freed) among);
          }
          )
      | inr further ↦ all_back epoch v hs gs more later rest
          (λ e c. grace e (subst (λ (l : List Entry). Contains l e) (sym freed) (Contains-append_right fs more e c))) n
          further
    ]

pub values_are_back : {nodes : ℕ} {room : Bool} {vs : List ℕ} {c : HandedOut} (w z : WorkerView)
    → LeavesCollectValues nodes room w z vs c → (v : ℕ) → Contains vs v → HasComeBack z.pass.view v
values_are_back {vs = vs} {c = c} w z d = all_back c.epoch z.pass.view w.queues z.queues d.freed vs d.handed
    (λ e there. All-contains (λ (x : Entry). IsFreedInGrace z.pass.view x.node) d.freed e d.grace there)
