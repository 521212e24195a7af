-- A core state as it is kept in tables.
use Rattle.std.proofs.Common.{◌≡◌, ℕ, zero, suc, ◌-◌, ◌<◌, List, [], ◌∷◌, map, length, get_or, set, replicate, refl, ap, subst, ◌∙◌, true, false, arith}
use Rattle.std.specs.Prelude.{ℤ}
use Rattle.level_table.specs.declared.level.Level.{Level}
use Rattle.level_table.specs.declared.level.Level.TheVariants.{Empty, At}
use Rattle.level_table.specs.Levels.{Table, level_at, lesser}
use Rattle.level_table.specs.declared.reason.Note.{Note}
use Rattle.level_table.specs.Problem.{Problem}
use Rattle.schedule_core.specs.Frame.{rows_of, with_level}
use Rattle.schedule_core.specs.Core.{IsValid, IsWorking, cleared, loaded, lowered, no_reader, sees}
use Rattle.schedule_core.specs.Runs.{others, started}
use Rattle.schedule_core.specs.State.{core_of, other_reader, readers_of, table_at}
use Rattle.schedule_core.proofs.Events.{fit}

length-map : (ts : List Table) → length (map other_reader ts) ≡ length ts
length-map [] = refl
length-map (t ∷ ts) = ap suc (length-map ts)

pub length-readers : (ts : List Table) → length (readers_of ts) ≡ length ts
length-readers [] = refl
length-readers (t ∷ ts) = ap suc (length-map ts)

map_seen : (ts : List Table) (w : ℕ) → (get_or (map other_reader ts) w no_reader).seen ≡ table_at ts w
map_seen [] w = refl
map_seen (t ∷ ts) zero = refl
map_seen (t ∷ ts) (suc w) = map_seen ts w

pub seen_is : (ts : List Table) (w : ℕ) → (get_or (readers_of ts) w no_reader).seen ≡ table_at ts w
seen_is [] w = refl
seen_is (t ∷ ts) zero = refl
seen_is (t ∷ ts) (suc w) = map_seen ts w

map_set : (ts : List Table) (w r : ℕ) (l : Level) → w < length ts → map other_reader (set ts w (with_level (table_at ts w) r l)) ≡ set (map other_reader ts) w (sees (get_or (map other_reader ts) w no_reader) r l)
map_set [] w r l h = absurd (omega arith)
map_set (t ∷ ts) zero r l h = refl
map_set (t ∷ ts) (suc w) r l h = ap (λ rs. other_reader t ∷ rs) (map_set ts w r l (omega arith))

pub readers_set : (ts : List Table) (w r : ℕ) (l : Level) → w < length ts → readers_of (set ts w (with_level (table_at ts w) r l)) ≡ set (readers_of ts) w (sees (get_or (readers_of ts) w no_reader) r l)
readers_set [] w r l h = absurd (omega arith)
readers_set (t ∷ ts) zero r l h = refl
readers_set (t ∷ ts) (suc w) r l h = ap (λ rs. record { seen = t; owner = true; ended = false } ∷ rs) (map_set ts w r l (omega arith))

map_others : (t : Table) (n : ℕ) → map other_reader (replicate n t) ≡ others t n
map_others t zero = refl
map_others t (suc n) = ap (λ rs. other_reader t ∷ rs) (map_others t n)

pub readers_start : (t : Table) (n : ℕ) → readers_of (replicate (suc n) t) ≡ record { seen = t; owner = true; ended = false } ∷ others t n
readers_start t n = ap (λ rs. record { seen = t; owner = true; ended = false } ∷ rs) (map_others t n)

pub row_there : (p : Problem) (start words : Table) (ts : List Table) (notes : List Note) (w r : ℕ) → IsValid (core_of p start words ts notes) → IsWorking (core_of p start words ts notes) w
    → r < rows_of (record { problem = p; start = start }) → r < length (table_at ts w).levels
row_there p start words ts notes w r ok works within = subst (λ (t : Table). r < length t.levels) (seen_is ts w) (omega (arith, (fit (core_of p start words ts notes) w ok works).seen.one_each))

pub worker_there : (p : Problem) (start words : Table) (ts : List Table) (notes : List Note) (w : ℕ) → IsWorking (core_of p start words ts notes) w → w < length ts
worker_there p start words ts notes w works = omega (arith, length-readers ts, works.there)

-- the core, where the words are these and worker w has seen another level
pub core_seeing : (p : Problem) (start words : Table) (ts us : List Table) (notes : List Note) (w r : ℕ) (l : Level) → w < length ts → us ≡ set ts w (with_level (table_at ts w) r l)
    → core_of p start words us notes ≡ record (core_of p start words ts notes) { readers = set (readers_of ts) w (sees (get_or (readers_of ts) w no_reader) r l) }
core_seeing p start words ts us notes w r l here is = ap (λ rs. record (core_of p start words ts notes) { readers = rs }) (ap readers_of is ∙ readers_set ts w r l here)

pub core_loaded : (p : Problem) (start words : Table) (ts us : List Table) (notes : List Note) (w r : ℕ) (l : Level) → w < length ts → us ≡ set ts w (with_level (table_at ts w) r l) → l ≡ level_at words r
    → core_of p start words us notes ≡ loaded (core_of p start words ts notes) w r
core_loaded p start words ts us notes w r l here is e =
    core_seeing p start words ts us notes w r l here is ∙ ap (λ (k : Level). record (core_of p start words ts notes) { readers = set (readers_of ts) w (sees (get_or (readers_of ts) w no_reader) r k) }) e

pub core_lowered : (p : Problem) (start words new : Table) (ts us : List Table) (notes : List Note) (w r : ℕ) (x : ℤ) (l : Level) → w < length ts → us ≡ set ts w (with_level (table_at ts w) r l)
    → l ≡ lesser (level_at words r) (At x) → new.levels ≡ set words.levels r l → core_of p start new us notes ≡ lowered (core_of p start words ts notes) w r (At x)
core_lowered p start words new ts us notes w r x l here is e changed =
    core_seeing p start new ts us notes w r l here is
    ∙ (λ i. record {
      frame = record { problem = p; start = start };
      levels = (changed ∙ ap (λ (k : Level). set words.levels r k) e) i;
      readers = set (readers_of ts) w (sees (get_or (readers_of ts) w no_reader) r (e i));
      notes = notes;
    })

pub core_cleared : (p : Problem) (start words new : Table) (ts us : List Table) (notes : List Note) (r : ℕ) → 0 < length ts → us ≡ set ts 0 (with_level (table_at ts 0) r Empty)
    → new.levels ≡ set words.levels r Empty → core_of p start new us notes ≡ cleared (core_of p start words ts notes) r
core_cleared p start words new ts us notes r here is changed =
    core_seeing p start new ts us notes 0 r Empty here is ∙ ap (λ ls. record { frame = record { problem = p; start = start }; levels = ls; readers = set (readers_of ts) 0 (sees (get_or (readers_of ts) 0 no_reader) r Empty); notes = notes }) changed

pub core_started : (p q : Problem) (start t words : Table) (ts : List Table) (notes : List Note) (n : ℕ) → p ≡ q → start ≡ t → words ≡ t → ts ≡ replicate n t → 0 < n
    → core_of p start words ts notes ≡ started (record { problem = q; start = t }) (n - 1) notes
core_started p q start t words ts notes n problem same copy is some =
    let m = n - 1 in
    let next : n ≡ suc m = omega arith in
    let readers : readers_of ts ≡ record { seen = t; owner = true; ended = false } ∷ others t m = ap readers_of (is ∙ ap (λ (k : ℕ). replicate k t) next) ∙ readers_start t m in
    λ i. record { frame = record { problem = problem i; start = same i }; levels = (copy i).levels; readers = readers i; notes = notes }
