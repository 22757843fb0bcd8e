-- After each event the ids in force meet demand 3: a fresh halving does, and ids stay in force only as long as no part breaks a bound.
use Prim.Native.Nat.{ℕ, zero, suc, ◌+◌, ◌^◌, ◌≤◌, ◌<◌}
use native.Mathlib.Omega.{arith}
use native.Mathlib.Nat.{eq-zero-or-pos}
use native.Mathlib.Numerals.{add-one}
use mathlib.Core.Bool.{Bool, true, false, ◌&&◌, cond}
use mathlib.Core.Logic.{⊎_elim}
use mathlib.Core.Path.{◌≡◌, refl, ap, sym, ◌∙◌}
use mathlib.Core.List.{List}
use lib.Dec.{eqb}
use lib.ListN.{length}
use borrow.Author.Tests.{eq-eqb, ne_eqb}
use Rattle.rules.specs.Sums.{pick}
use Rattle.rules.specs.Grid.{cells}
use Rattle.rules.specs.Halving.{Halving, splits_by, ids_by, ids_of}
use Rattle.rules.specs.Demands.{Demand3}
use Rattle.requests.specs.Order.{at}
use Rattle.requests.specs.Replay.{Night, answer_to, answer_at, weights_at, broken, halved_at, ids_at}
use Rattle.laws.proofs.Lists.{length_list}
use Rattle.halving_laws.specs.Accepted.{Accepted}
use Rattle.halving_laws.proofs.Editions.{edition_limits}
use Rattle.halving_laws.proofs.Balance.{fair_tree_is_balanced}
use Rattle.halving_laws.proofs.Ids.{ids_below, parts_add_up}
use Rattle.halving_laws.proofs.Demand3.{fair}
use Rattle.tally_laws.specs.Weighed.{Weighed, Named, heavier, Takes}
use Rattle.tally_laws.proofs.Kept.{heavier_weighed}
use Rattle.replay_laws.specs.Events.{added, anew_after, anew_at}
use Rattle.replay_laws.specs.InForce.{InForce}
use Rattle.replay_laws.proofs.Events.{told, added_is, added_not}
use Rattle.replay_laws.proofs.History.{weights_first, weights_next}
use Rattle.replay_laws.proofs.Bounds.{all_kept}

-- CALLS that are not refused

module _ {h : Halving} {ws splits ids : List ℕ} (r : Accepted h ws splits ids) where
  pub weighed : length h.sides ≤ 3 → Weighed h.sides ws
  weighed a = record { sided = record { axes = a; sides_fit = r.sides_fit; few = r.few }; long = r.weights_long; light = r.light }

  -- the same grid after an amount
  pub heavier_accepted : length h.sides ≤ 3 → {cell amount : ℕ} → Takes ws cell amount → Accepted h (heavier ws cell amount) splits ids
  heavier_accepted a {cell} {amount} t =
      let w = heavier_weighed (weighed a) cell amount t.inside t.light in
      record {
        edition_known = r.edition_known;
        first_fits = r.first_fits;
        sides_fit = r.sides_fit;
        few = r.few;
        shallow = r.shallow;
        weights_long = w.long;
        ids_long = r.ids_long;
        splits_long = r.splits_long;
        light = w.light;
      }

  -- and with other splits and ids
  rewritten : {splits' ids' : List ℕ} → length splits' ≡ length splits → length ids' ≡ length ids → Accepted h ws splits' ids'
  rewritten e f =
      record {
        edition_known = r.edition_known;
        first_fits = r.first_fits;
        sides_fit = r.sides_fit;
        few = r.few;
        shallow = r.shallow;
        weights_long = r.weights_long;
        ids_long = f ∙ r.ids_long;
        splits_long = e ∙ r.splits_long;
        light = r.light;
      }

  -- a fresh halving is in force
  pub fresh : length h.sides ≤ 3 → {splits' ids' : List ℕ} → length splits' ≡ length splits → ids' ≡ ids_by h ws → InForce h ws splits' ids'
  unfolding ids_of
  fresh a e f =
      rw f (record {
        axes = a;
        accepted = rewritten e (length_list _ (cells h.sides) ∙ sym r.ids_long);
        below = λ c l. ids_below h.sides h.first h.depth (splits_by h ws) c (rw (length_list _ (cells h.sides)) at l);
        bounds = λ i l. fair_tree_is_balanced h.sides ws (splits_by h ws) h.first h.depth i r.first_fits (fair h (edition_limits h.edition) r) l;
      })

-- ONE EVENT

module _ {h : Halving} {ws splits ids : List ℕ} (g : InForce h ws splits ids) where
  pub named : Named (2 ^ h.depth) h.sides ids
  named = record { long = g.accepted.ids_long; below = g.below }

  pub in_force_weighed : Weighed h.sides ws
  in_force_weighed = weighed g.accepted g.axes

  -- whatever the splits hold
  pub resplit : {splits' : List ℕ} → length splits' ≡ length splits → InForce h ws splits' ids
  resplit e = record { axes = g.axes; accepted = rewritten g.accepted e refl; below = g.below; bounds = g.bounds }

  -- ids in force meet demand 3
  pub in_force_demand : Demand3 h.sides ws h.depth ids
  in_force_demand =
      record {
        balanced = g.bounds;
        adds_up = parts_add_up h.sides ws ids (2 ^ h.depth) (λ c l. g.below c (rw g.accepted.ids_long l));
      }

  module _ {cell amount : ℕ} (t : Takes ws cell amount) where
    pub taken_accepted : Accepted h (heavier ws cell amount) splits ids
    taken_accepted = heavier_accepted g.accepted g.axes t

    -- no bound is broken: they stay in force
    pub stays : broken h (heavier ws cell amount) ids ≡ false → InForce h (heavier ws cell amount) splits ids
    unfolding broken
    stays e = record { axes = g.axes; accepted = taken_accepted; below = g.below; bounds = all_kept h.depth _ _ _ e }

  pub in_force_next : (cell amount : ℕ) → InForce h (added ws cell amount) splits (cond (anew_after h ws cell amount ids) (ids_by h (added ws cell amount)) ids)
  unfolding anew_after
  in_force_next cell amount = ⊎_elim yes no (eq-zero-or-pos (answer_to ws cell amount))
    where
      by : Takes ws cell amount → (b : Bool) → broken h (heavier ws cell amount) ids ≡ b → InForce h (heavier ws cell amount) splits (cond b (ids_by h (heavier ws cell amount)) ids)
      by t true e = fresh (taken_accepted t) g.axes refl refl
      by t false e = stays t e

      yes : answer_to ws cell amount ≡ 0 → InForce h (added ws cell amount) splits (cond (eqb (answer_to ws cell amount) 0 && broken h (added ws cell amount) ids) (ids_by h (added ws cell amount)) ids)
      yes e = rw (added_is ws cell amount e, eq-eqb (answer_to ws cell amount) 0 e) (by (told ws cell amount e) (broken h (heavier ws cell amount) ids) refl)

      no : 0 < answer_to ws cell amount → InForce h (added ws cell amount) splits (cond (eqb (answer_to ws cell amount) 0 && broken h (added ws cell amount) ids) (ids_by h (added ws cell amount)) ids)
      no l = rw (added_not ws cell amount l, ne_eqb (answer_to ws cell amount) 0 (λ z. omega arith)) g

-- EVENT BY EVENT

pick_cond : (f : ℕ → List ℕ) (b : Bool) (m n : ℕ) → f (pick b m n) ≡ cond b (f m) (f n)
unfolding pick
pick_cond f true m n = refl
pick_cond f false m n = refl

module _ (h : Halving) (t : Night) where
  pub halved_next : (n : ℕ) → halved_at h t (n + 1) ≡ pick (anew_at h t n) (n + 1) (halved_at h t n)
  unfolding halved_at anew_after answer_at
  halved_next n = rw (← weights_next t n, add-one)

  -- what is made of the weights of the last halving: its splits, say, or its ids
  pub made_next : (f : List ℕ → List ℕ) (n : ℕ) → f (weights_at t (halved_at h t (n + 1))) ≡ cond (anew_at h t n) (f (weights_at t (n + 1))) (f (weights_at t (halved_at h t n)))
  made_next f n = rw (halved_next n) (pick_cond (λ m. f (weights_at t m)) (anew_at h t n) (n + 1) (halved_at h t n))

  pub ids_first : ids_at h t 0 ≡ ids_by h t.start
  unfolding halved_at
  ids_first = ap (ids_by h) (weights_first t)

  pub in_force_after : {splits : List ℕ} → InForce h t.start splits (ids_by h t.start) → (n : ℕ) → InForce h (weights_at t n) splits (ids_at h t n)
  in_force_after g zero = rw (ids_first, weights_first t) g
  in_force_after {splits} g (suc n) =
      let e = in_force_next (in_force_after g n) (at t.cells n) (at t.amounts n) in
      rw (← add-one n, made_next (ids_by h) n, weights_next t n) e

  -- a refused event leaves the halving in force
  pub halved_refused : (n : ℕ) → 0 < answer_at t n → halved_at h t (n + 1) ≡ halved_at h t n
  unfolding pick anew_after answer_at
  halved_refused n l = rw (halved_next n, ne_eqb (answer_at t n) 0 (λ z. omega arith))
