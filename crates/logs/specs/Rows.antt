-- RULES 27.7: the rows.
use Rattle.std.specs.Prelude.{ℕ, pos, replicate, false, true, List, [], ◌∷◌, ◌≡◌, None, Some}
use Rattle.std.specs.Prelude.{Ok, Err}
use Rattle.latch.specs.Latches.{empty_ex_mem, empty_mem_wb}
use Rattle.latch.specs.Memory.{request_in, requests}
use Rattle.accuracy.specs.Accuracy.{begin}
use Rattle.accuracy.specs.Asking.{replies}
use Rattle.accuracy.specs.Samples.{nothing, source_of}
use Rattle.cardlog.specs.Events.{access_events, retire_events}
use Rattle.cardlog.specs.Reading.{read}
use Rattle.logs.specs.Logs.{Kept, happened, keep, kept, result_of}
use Rattle.logs.specs.Names.{Addi, BadEntry, Cpuid, Div, Event, ExMem, Given, Halt, Instruction, Ld, Ldb, Loaded}
use Rattle.logs.specs.Names.{LogFull, MemWb, Normal, Retired, ShortLog, St, Start, Stb, Stored}
use Rattle.logs.specs.Names.{Written}
use Rattle.pipeline.specs.Start.{fresh}
use Rattle.pipeline.specs.Turn.{reply}

-- registers and address 0, Normal, supervisor; feature word 7
unfoldable pub start : Start
start = record { reg = replicate 32 0; at = record { pc = 0; mode = Normal }; user = false; features = 7 }

-- n ticks from there, each given what it asks for, a load the word `answer`
unfoldable pub ticks : List Instruction → ℕ → ℕ → List Given
ticks is answer n = replies (source_of is) (replicate n answer) (begin start)

-- before the first, with a log of n bytes, each 255
unfoldable pub card : ℕ → Kept
card n = record { state = fresh start; log = replicate n 255; free = 0 }

-- what these ticks write into a log with room
unfoldable pub entries_of : List Instruction → ℕ → ℕ → List Event
entries_of is answer n = happened (card 64) (ticks is answer n)

-- a machine that has halted, with a log of n bytes and a first free place
unfoldable pub halted : ℕ → ℕ → Kept
halted n free = record { state = (kept (card 64) (ticks (Halt ∷ []) 0 5)).state; log = replicate n 255; free = free }

-- ADDI R3,R0,7, then HALT
unfoldable pub add_and_halt : List Instruction
add_and_halt = Addi 3 0 (pos 7) ∷ Halt ∷ []

-- the ADDI in MEM/WB, and one tick left of a wait for the memory, told in the fourth tick; a log of 11 bytes, none of
-- them written
unfoldable pub held : Kept
held =
    let k = kept (card 11) (ticks add_and_halt 0 3) in
    keep k (record (reply (source_of add_and_halt) 0 k.state) { fetch_wait = 1 })

-- and behind that wait
unfoldable pub released : Kept
released = keep held nothing

-- a retirement with CPUID and destination R1 in one latch
unfoldable pub both : MemWb
both = record empty_mem_wb { valid = true; cpuid = true; writeback = true; dest = Some 1; value = 9 }

-- a load and store in one latch, of a width
unfoldable pub twice : ℕ → ExMem
twice width = record empty_ex_mem { valid = true; is_load = true; is_store = true; mem_size = width }

pub record Rows : Type 0 where
  -- HALT: nothing in four ticks, its retirement in the fifth
  pub quiet : happened (card 8) (ticks (Halt ∷ []) 0 4) ≡ []
  pub halt : (kept (card 8) (ticks (Halt ∷ []) 0 5)).log ≡ 0x80 ∷ 0 ∷ 0 ∷ 0 ∷ 0 ∷ 255 ∷ 255 ∷ 255 ∷ []
  pub halt_free : (kept (card 8) (ticks (Halt ∷ []) 0 5)).free ≡ 5
  -- no entry for R0
  pub zero : entries_of (Addi 3 0 (pos 7) ∷ Addi 0 0 (pos 1) ∷ Halt ∷ []) 0 7
      ≡ Retired 0 ∷ Written 3 7 ∷ Retired 4 ∷ Retired 8 ∷ []
  pub cpuid : entries_of (Cpuid ∷ Halt ∷ []) 0 6 ≡ Retired 0 ∷ Written 1 0x53524332 ∷ Written 2 7 ∷ Retired 4 ∷ []
  pub cpuid_and_destination : retire_events both 7
      ≡ Retired 0 ∷ Written 1 0x53524332 ∷ Written 2 7 ∷ Written 1 9 ∷ []
  -- a load in the fourth tick, its retirement in the fifth
  pub load : entries_of (Ld 5 0 (pos 8) ∷ Halt ∷ []) 21 4 ≡ Loaded 8 4 21 ∷ []
  pub load_retired : entries_of (Ld 5 0 (pos 8) ∷ Halt ∷ []) 21 6
      ≡ Loaded 8 4 21 ∷ Retired 0 ∷ Written 5 21 ∷ Retired 4 ∷ []
  -- a load's answer whole, a store's word cut
  pub narrow_load : entries_of (Ldb 5 0 (pos 8) ∷ Halt ∷ []) 300 6
      ≡ Loaded 8 1 300 ∷ Retired 0 ∷ Written 5 300 ∷ Retired 4 ∷ []
  pub narrow_store : entries_of (Addi 1 0 (pos 300) ∷ Stb 1 0 (pos 2) ∷ Halt ∷ []) 0 7
      ≡ Retired 0 ∷ Written 1 300 ∷ Stored 2 1 44 ∷ Retired 4 ∷ Retired 8 ∷ []
  -- both in one latch are a load; a width of 0 asks for nothing
  pub load_and_store : access_events (request_in (requests (twice 4))) 21 ≡ Loaded 0 4 21 ∷ []
  pub no_width : access_events (request_in (requests (twice 0))) 21 ≡ []
  -- nothing behind a HALT; in the ticks of a divide's wait what retires
  pub behind_halt : entries_of (Halt ∷ St 0 0 (pos 0) ∷ []) 0 8 ≡ Retired 0 ∷ []
  pub in_wait : entries_of (Addi 1 0 (pos 9) ∷ Div 2 1 1 ∷ Halt ∷ []) 0 6 ≡ Retired 0 ∷ Written 1 9 ∷ []
  -- nothing in a tick of a wait for the memory; in the next, what MEM/WB held
  pub in_memory_wait : (released.log ≡ replicate 11 255) × ((released.free ≡ 0) × (released.state.counts.cycles ≡ 5))
  pub behind_memory_wait : happened released (reply (source_of add_and_halt) 0 released.state ∷ [])
      ≡ Retired 0 ∷ Written 3 7 ∷ []
  -- 5 bytes are enough for HALT, 4 are not: nothing is written, and the machine has not halted
  pub room : happened (card 5) (ticks (Halt ∷ []) 0 5) ≡ Retired 0 ∷ []
  pub no_room : kept (card 4) (ticks (Halt ∷ []) 0 5) ≡ kept (card 4) (ticks (Halt ∷ []) 0 4)
  pub full : (let k = kept (card 4) (ticks (Halt ∷ []) 0 4) in result_of k (reply (source_of (Halt ∷ [])) 0 k.state))
      ≡ Err LogFull
  -- without events, the first free place may be the log's end, and not past it
  pub at_end : (keep (halted 5 5) nothing).state.counts.cycles ≡ 6
  pub past_end : result_of (halted 5 6) nothing ≡ Err LogFull
  pub far_past_end : result_of (halted 5 18446744073709551615) nothing ≡ Err LogFull
  -- the reader
  pub empty : read [] 0 ≡ record { found = Ok None; at = 0 }
  pub behind_end : read (0x80 ∷ []) 9 ≡ record { found = Ok None; at = 9 }
  pub unknown : read (0x7F ∷ []) 0 ≡ record { found = Err BadEntry; at = 0 }
  pub short : read (0x80 ∷ 0 ∷ 0 ∷ 0 ∷ []) 0 ≡ record { found = Err ShortLog; at = 0 }
  pub short_first : read (0x81 ∷ 0 ∷ []) 0 ≡ record { found = Err ShortLog; at = 0 }
  pub register_0 : read (0x81 ∷ 0 ∷ 0 ∷ 0 ∷ 0 ∷ 0 ∷ []) 0 ≡ record { found = Err BadEntry; at = 0 }
  pub register_32 : read (0x81 ∷ 32 ∷ 0 ∷ 0 ∷ 0 ∷ 0 ∷ []) 0 ≡ record { found = Err BadEntry; at = 0 }
  pub width_3 : read (0x82 ∷ 0 ∷ 0 ∷ 0 ∷ 0 ∷ 3 ∷ 0 ∷ 0 ∷ 0 ∷ 0 ∷ []) 0 ≡ record { found = Err BadEntry; at = 0 }
  pub width_0 : read (255 ∷ 0x82 ∷ 0 ∷ 0 ∷ 1 ∷ 2 ∷ 0 ∷ 0 ∷ 0 ∷ 0 ∷ 5 ∷ []) 1
      ≡ record { found = Ok (Some (Loaded 258 0 5)); at = 11 }
