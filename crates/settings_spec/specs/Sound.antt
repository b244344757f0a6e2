-- 02, S-12: what a sound chain of settings is, said of its records in chain order; `is_sound` decides it, both ways.
-- Assumes nothing.
use Rattle.std.specs.Prelude.{ℕ, ◌+◌, ◌*◌, ◌≤◌, ◌<◌, ◌≡◌, true, ◌||◌, List, map, eqb, get_or}
use Rattle.texts.specs.Text.{distinct}
use Rattle.records.specs.Chain.{All, Linked}
use Rattle.settings_spec.specs.Settings.{count, next, name_at, kind_at, is_record}

-- a record in the chain: inside, with a name length and a kind in range
pub record Record (b : List ℕ) (i : ℕ) : Type 0 where
  pub inside : i < count b
  pub short : get_or b (32 * i + 2) 0 ≤ 15
  pub kinds : (eqb (kind_at b i) 1 || eqb (kind_at b i) 2) ≡ true

-- a chain of records from record 0 on that ends, each right, no name twice. That it ends says that it has no circle
pub record Sound (b : List ℕ) : Type 0 where
  pub chained : List ℕ
  pub linked : Linked (next b) 0 chained
  pub each : All (λ (i : ℕ). is_record b i ≡ true) chained
  pub names : distinct (map (name_at b) chained) ≡ true
