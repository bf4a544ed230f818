-- Instructions whose registers are below 32, and the mode that an instruction is of.
use Rattle.std.specs.Prelude.{Bool, false, true}
use Rattle.isa.specs.Names.{DecNormal, DecShort, Decoded, Instruction, Mode, Normal, RawInstr, RawNormal}
use Rattle.isa.specs.Names.{RawShort, Short}
use Rattle.isa.specs.Operands.{ok_operands, operands_n}

-- a Normal instruction whose registers are below 32
unfoldable pub ok_instruction : Instruction → Bool
ok_instruction i = ok_operands (operands_n i)

-- the same of what a fetch brings; the register numbers of a halfword are not tested
unfoldable pub ok_raw : RawInstr → Bool
ok_raw (RawNormal i) = ok_instruction i
ok_raw (RawShort h) = true

-- the same of a decoded instruction; the register numbers of a Short one are not tested
unfoldable pub ok_decoded : Decoded → Bool
ok_decoded (DecNormal i) = ok_instruction i
ok_decoded (DecShort i) = true

-- what a fetch brings is an instruction of a mode
unfoldable pub is_of : Mode → RawInstr → Bool
is_of Normal (RawNormal i) = true
is_of Normal (RawShort h) = false
is_of Short (RawNormal i) = false
is_of Short (RawShort h) = true
