-- What a sink in memory holds and tells, and what each call on it leaves.
use Rattle.std.specs.Prelude.{ℕ, ◌+◌, Bool, List, [], ◌++◌, Some, refl}
use Rattle.std.specs.Coded.{Coded, code_by, coded×, coded_ℕ, coded_list}
use Rattle.semantics.specs.Texts.{Bytes}
use Rattle.outside_semantics.specs.Outside.{SinkTold}
use Rattle.file_core.specs.Calls.{one_more, is_listed}
use Rattle.file_core.specs.Memory.{bytes_code}

-- the bytes that were put; the other fields are those of files in memory
pub record MemorySinkValue : Type 0 where
  pub put_bytes : Bytes
  pub faults : ℕ
  pub calls : ℕ
  pub failing : List ℕ
  pub chunk : ℕ

-- a value is stored as the tuple of its fields
abbrev pub memory_sink_code : Coded MemorySinkValue
memory_sink_code =
    code_by (Bytes × (ℕ × (ℕ × (List ℕ × ℕ))))
    (coded× bytes_code (coded× coded_ℕ (coded× coded_ℕ (coded× (coded_list coded_ℕ) coded_ℕ))))
    (λ m. (m.put_bytes, (m.faults, (m.calls, (m.failing, m.chunk)))))
    (λ p. record { put_bytes = p.0; faults = p.1.0; calls = p.1.1.0; failing = p.1.1.1.0; chunk = p.1.1.1.1 })
    (λ _. refl)

-- a sink before the first call
abbrev pub sink_at_first : List ℕ → ℕ → MemorySinkValue
sink_at_first failing chunk
    = record { put_bytes = []; faults = 0; calls = 0; failing = failing; chunk = chunk }

abbrev pub memory_sink_told : MemorySinkValue → SinkTold
memory_sink_told m = record { put_bytes = Some m.put_bytes; faults = m.faults }

-- the next call is listed
abbrev pub put_fails_next : MemorySinkValue → Bool
put_fails_next m = is_listed m.failing (m.calls + 1)

abbrev pub took : MemorySinkValue → Bytes → MemorySinkValue
took m text = record m { calls = one_more m.calls; put_bytes = m.put_bytes ++ text }

abbrev pub not_taken : MemorySinkValue → MemorySinkValue
not_taken m = record m { calls = one_more m.calls; faults = one_more m.faults }
