-- Sources and sinks in memory: how many bytes a call moves, and which calls fail.
use Rattle.std.specs.Prelude.{ℕ, ◌+◌, Bool, ◌&&◌, nat_eq, nat_lt, List, length, slice_index, max, min, Option, None, if◌then◌else◌}
use Rattle.std.specs.List.{list_any}
use Rattle.mw_port.specs.Ports.{last_count}

-- the next call's number, counted from 1; the count of calls stands still at its last value
abbrev pub next_count : ℕ → ℕ
next_count n = min (n + 1) last_count

-- does this call fail? From call number 2^64 - 1 on none does
abbrev pub fails_at : List ℕ → ℕ → Bool
fails_at fails call = nat_lt call last_count && list_any (λ n. nat_eq n call) fails

-- at most this many bytes go at a call, at least 1; past the list, as many as fit
abbrev pub allowed : List ℕ → ℕ → ℕ → ℕ
allowed cuts calls room = if nat_lt calls (length cuts) then min (max (slice_index cuts calls) 1) room else room

-- a source in memory: what is left, the cuts, the failing calls, and the counts of calls and faults
pub record Giving : Type 0 where
  pub left : List ℕ
  pub cuts : List ℕ
  pub fails : List ℕ
  pub calls : ℕ
  pub faults : ℕ

-- a sink in memory, which counts its shortages of memory too
pub record Taking : Type 0 where
  pub taken : List ℕ
  pub cuts : List ℕ
  pub fails : List ℕ
  pub calls : ℕ
  pub faults : ℕ
  pub shortages : ℕ

-- the count of faults of what never fails, and of shortages of what needs no memory
abbrev pub no_faults : ℕ
no_faults = 0

-- the bytes of what tells none
abbrev pub untold : Option (List ℕ)
untold = None
