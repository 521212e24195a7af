-- The list of punishments, one strategy more, and of both players.
use Rattle.std.proofs.Common.{◌≡◌, ◌≢◌, ℕ, zero, suc, ◌+◌, ◌-◌, ◌<◌, ◌≤◌, ⊎_elim, List, [], ◌∷◌, ◌++◌, length, get_or, take, refl, sym, ap, subst, ◌∙◌, arith, zero-add, nat_lt, if◌then◌else◌}
use Rattle.std.proofs.lemmas.Bool.{cases_lt}
use Rattle.std.proofs.lemmas.Bool.Decides.{nat_tests}
use Rattle.std.proofs.lemmas.List.{length_push, get_or_push, get_or_append_left}
use Rattle.game_model.specs.Game.{DynamicGame, IsGame, states, counts, profile_count, strategies_of, strategy_at, IsDeviation}
use Rattle.game_model.specs.SelfGeneration.{deviation_count, deviation_place}
use Rattle.game_model.proofs.Profiles.{length-strategies_of, strategy_below}
use Rattle.selfgen_check.proofs.Deviations.{place_is, count_step}
use Rattle.inner_sets.specs.Built.{punishing, others_before, AddsPunishments, ArePunishments}
use Rattle.inner_sets.specs.Summaries.{PointSummary}

others_none : (own : ℕ) → others_before own 0 ≡ 0
others_none own = grind (arith, nat_tests)

others_own : (own : ℕ) → others_before own (own + 1) ≡ others_before own own
others_own own = grind (arith, nat_tests)

others_more : (own b : ℕ) → b ≢ own → others_before own (b + 1) ≡ others_before own b + 1
others_more own b ne = grind (arith, nat_tests)

others_less : (own x b : ℕ) → x < b → x ≢ own → b ≢ own → others_before own x < others_before own b
others_less own x b less ne nf = grind (arith, nat_tests)

others_all : (own m : ℕ) → own < m → others_before own m ≡ m - 1
others_all own m h = grind (arith, nat_tests)

others_within : (own b m : ℕ) → own < m → b < m → b ≢ own → others_before own b < m - 1
others_within own b m h k ne = grind (arith, nat_tests)

others_are : (own b : ℕ) → b ≢ own → (if nat_lt b own then b else (b - 1)) ≡ others_before own b
others_are own b ne = grind (arith, nat_tests)

module _ (g : DynamicGame) (ys : List PointSummary) (s a i : ℕ) where
  pub punish_none : (old : List ℕ) → AddsPunishments g ys s a i 0 old old
  punish_none old = record {
    count = omega (arith, others_none (strategy_at g s a i));
    kept = λ k below. refl;
    added = λ b less dev. absurd (omega arith);
  }

  pub punish_own : (b : ℕ) (old now : List ℕ) → b ≡ strategy_at g s a i → AddsPunishments g ys s a i b old now → AddsPunishments g ys s a i (b + 1) old now
  punish_own b old now e adds = record {
    count = adds.count ∙ ap (λ (k : ℕ). length old + k) (ap (λ (x : ℕ). others_before (strategy_at g s a i) x) e ∙ (sym (others_own (strategy_at g s a i)) ∙ ap (λ (x : ℕ). others_before (strategy_at g s a i) (x + 1)) (sym e)));
    kept = adds.kept;
    added = λ x less dev.
        ⊎_elim
        (λ (lt : x < b). adds.added x lt dev)
        (λ (ge : b ≤ x). let same : x ≡ b = omega arith in absurd (dev.other (same ∙ e)))
        (cases_lt x b);
  }

  pub punish_more : (b h : ℕ) (old now new : List ℕ) → b ≢ strategy_at g s a i → AddsPunishments g ys s a i b old now → new ≡ now ++ h ∷ [] → (IsDeviation g s a i b → h ≡ punishing g ys s a i b) → AddsPunishments g ys s a i (b + 1) old new
  punish_more b h old now new ne adds is here = subst (λ (xs : List ℕ). AddsPunishments g ys s a i (b + 1) old xs) (sym is) (record {
    count = omega (arith, length_push now h, adds.count, others_more (strategy_at g s a i) b ne);
    kept = λ k below. get_or_append_left now (h ∷ []) 0 k (omega (arith, adds.count)) ∙ adds.kept k below;
    added = λ x less dev.
        ⊎_elim
        (λ (lt : x < b). get_or_append_left now (h ∷ []) 0 (length old + others_before (strategy_at g s a i) x) (omega (arith, adds.count, others_less (strategy_at g s a i) x b lt dev.other ne)) ∙ adds.added x lt dev)
        (λ (ge : b ≤ x).
        let same : b ≡ x = omega arith in
        subst (λ (y : ℕ). IsDeviation g s a i y → get_or (now ++ h ∷ []) (length old + others_before (strategy_at g s a i) y) 0 ≡ punishing g ys s a i y) same
        (λ d. get_or_push now h 0 (length old + others_before (strategy_at g s a i) b) adds.count ∙ here d) dev)
        (cases_lt x b);
  })

count_two : (ms : List ℕ) → length ms ≡ 2 → deviation_count ms ≡ (get_or ms 0 0 - 1) + (get_or ms 1 0 - 1)
count_two [] e = absurd (omega arith)
count_two (a ∷ []) e = absurd (omega arith)
count_two (a ∷ b ∷ []) e = omega arith
count_two (a ∷ b ∷ c ∷ ms) e = absurd (omega arith)

pub both_punished : (g : DynamicGame) (ys : List PointSummary) (s a : ℕ) (first all : List ℕ) → IsGame g → g.players ≡ 2 → s < states g → a < profile_count (counts g s)
    → AddsPunishments g ys s a 0 (get_or (counts g s) 0 0) [] first → AddsPunishments g ys s a 1 (get_or (counts g s) 1 0) first all → ArePunishments g ys s a all
both_punished g ys s a first all ok two state known adds more = record {
  count = omega (arith, count_two (counts g s) long, adds.count, more.count, others_all (strategy_at g s a 0) (get_or (counts g s) 0 0) (own 0 (omega arith)), others_all (strategy_at g s a 1) (get_or (counts g s) 1 0) (own 1 (omega arith)));
  each = each;
}
  where
    long : length (counts g s) ≡ 2
    long = (ok.each_state s state).one_each ∙ two

    own : (i : ℕ) → i < 2 → strategy_at g s a i < get_or (counts g s) i 0
    own i h = strategy_below (counts g s) a i (λ j below. (ok.each_state s state).some_strategy j (omega (arith, below, (ok.each_state s state).one_each))) (omega (arith, h, long))

    first_long : length first ≡ get_or (counts g s) 0 0 - 1
    first_long = omega (arith, adds.count, others_all (strategy_at g s a 0) (get_or (counts g s) 0 0) (own 0 (omega arith)))

    place : (i b : ℕ) → i < 2 → b ≢ strategy_at g s a i → deviation_place (counts g s) (strategies_of (counts g s) a) i b ≡ deviation_count (take i (counts g s)) + others_before (strategy_at g s a i) b
    place i b h ne = place_is (counts g s) (strategies_of (counts g s) a) i b (length-strategies_of (counts g s) a) (omega (arith, h, long)) ∙ ap (λ (k : ℕ). deviation_count (take i (counts g s)) + k) (others_are (strategy_at g s a i) b ne)

    before : deviation_count (take 1 (counts g s)) ≡ length first
    before = omega (arith, count_step (counts g s) 0 (omega (arith, long)), first_long)

    each : (i b : ℕ) → IsDeviation g s a i b → get_or all (deviation_place (counts g s) (strategies_of (counts g s) a) i b) 0 ≡ punishing g ys s a i b
    each zero b dev =
        ap (λ (k : ℕ). get_or all k 0) (place 0 b (omega arith) dev.other ∙ zero-add (others_before (strategy_at g s a 0) b))
        ∙ (more.kept (others_before (strategy_at g s a 0) b) (omega (arith, first_long, others_within (strategy_at g s a 0) b (get_or (counts g s) 0 0) (own 0 (omega arith)) dev.strategy dev.other))
        ∙ subst (λ (k : ℕ). get_or first k 0 ≡ punishing g ys s a 0 b) (zero-add (others_before (strategy_at g s a 0) b)) (adds.added b dev.strategy dev))
    each (suc zero) b dev =
        ap (λ (k : ℕ). get_or all k 0) (place 1 b (omega arith) dev.other ∙ ap (λ (k : ℕ). k + others_before (strategy_at g s a 1) b) before)
        ∙ more.added b dev.strategy dev
    each (suc (suc i)) b dev = absurd (omega (arith, dev.player, two))
