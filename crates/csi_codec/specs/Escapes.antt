-- ESC pairs: the codes by their bytes, and how they are written.
use Rattle.std.specs.Prelude.{ℕ, List, [], ◌∷◌, ◌++◌, Bool, Option, Some, None, find, ◌==◌, ◌&&◌, unwrap_or}
use Rattle.std.specs.Prelude.{encode_utf8}
use Rattle.std.specs.Option.{option_map_or}
use Rattle.csi_codec.specs.declared.escapes.EscCode.{EscCode}
use Rattle.csi_codec.specs.declared.escapes.EscCode.TheVariants as code
use Rattle.csi_codec.specs.declared.escapes.Esc.{Esc}
use Rattle.csi_codec.specs.declared.escapes.Esc.TheVariants as esc

-- the bytes of a code after ESC: the intermediate byte, if there is one, and the final byte
abbrev pub esc_code_bytes : EscCode → Option ℕ × ℕ
esc_code_bytes code.FullReset = (None, 99)  -- c: RIS, ECMA-48 8.3.105
esc_code_bytes code.Index = (None, 68)  -- D: IND, xterm: C1 (8-Bit) Control Characters
esc_code_bytes code.NextLine = (None, 69)  -- E: NEL, 8.3.86
esc_code_bytes code.CursorPositionLowerLeft = (None, 70)  -- F: xterm: ESC F
esc_code_bytes code.HorizontalTabSet = (None, 72)  -- H: HTS, 8.3.62
esc_code_bytes code.ReverseIndex = (None, 77)  -- M: RI, 8.3.104
esc_code_bytes code.SingleShiftG2 = (None, 78)  -- N: SS2, 8.3.141
esc_code_bytes code.SingleShiftG3 = (None, 79)  -- O: SS3, 8.3.142
esc_code_bytes code.StartOfGuardedArea = (None, 86)  -- V: SPA, 8.3.129
esc_code_bytes code.EndOfGuardedArea = (None, 87)  -- W: EPA, 8.3.46
esc_code_bytes code.StartOfString = (None, 88)  -- X: SOS, 8.3.128
esc_code_bytes code.ReturnTerminalId = (None, 90)  -- Z: DECID, xterm
esc_code_bytes code.StringTerminator = (None, 92)  -- \: ST, 8.3.143
esc_code_bytes code.PrivacyMessage = (None, 94)  -- ^: PM, 8.3.94
esc_code_bytes code.ApplicationProgramCommand = (None, 95)  -- _: APC, 8.3.2
esc_code_bytes code.TmuxTitle = (None, 107)  -- k: the title of tmux and screen
esc_code_bytes code.DecBackIndex = (None, 54)  -- 6: DECBI, xterm
esc_code_bytes code.DecSaveCursorPosition = (None, 55)  -- 7: DECSC, xterm
esc_code_bytes code.DecRestoreCursorPosition = (None, 56)  -- 8: DECRC, xterm
esc_code_bytes code.DecApplicationKeyPad = (None, 61)  -- =: DECKPAM, xterm
esc_code_bytes code.DecNormalKeyPad = (None, 62)  -- >: DECKPNM, xterm
esc_code_bytes code.DecLineDrawingG0 = (Some 40, 48)  -- (0: SCS, xterm: Designate G0 Character Set
esc_code_bytes code.UkCharacterSetG0 = (Some 40, 65)  -- (A: SCS, xterm: Designate G0 Character Set
esc_code_bytes code.AsciiCharacterSetG0 = (Some 40, 66)  -- (B: SCS, xterm: Designate G0 Character Set
esc_code_bytes code.DecLineDrawingG1 = (Some 41, 48)  -- )0: SCS, xterm: Designate G1 Character Set
esc_code_bytes code.UkCharacterSetG1 = (Some 41, 65)  -- )A: SCS, xterm: Designate G1 Character Set
esc_code_bytes code.AsciiCharacterSetG1 = (Some 41, 66)  -- )B: SCS, xterm: Designate G1 Character Set
esc_code_bytes code.DecScreenAlignmentDisplay = (Some 35, 56)  -- #8: DECALN, xterm
esc_code_bytes code.DecDoubleHeightTopHalfLine = (Some 35, 51)  -- #3: DECDHL, xterm
esc_code_bytes code.DecDoubleHeightBottomHalfLine = (Some 35, 52)  -- #4: DECDHL, xterm
esc_code_bytes code.DecSingleWidthLine = (Some 35, 53)  -- #5: DECSWL, xterm
esc_code_bytes code.DecDoubleWidthLine = (Some 35, 54)  -- #6: DECDWL, xterm

abbrev pub esc_codes : List EscCode
esc_codes =
    code.FullReset ∷ code.Index ∷ code.NextLine ∷ code.CursorPositionLowerLeft ∷ code.HorizontalTabSet
    ∷ code.ReverseIndex ∷ code.SingleShiftG2 ∷ code.SingleShiftG3 ∷ code.StartOfGuardedArea
    ∷ code.EndOfGuardedArea ∷ code.StartOfString ∷ code.ReturnTerminalId ∷ code.StringTerminator
    ∷ code.PrivacyMessage ∷ code.ApplicationProgramCommand ∷ code.TmuxTitle ∷ code.DecBackIndex
    ∷ code.DecSaveCursorPosition ∷ code.DecRestoreCursorPosition ∷ code.DecApplicationKeyPad
    ∷ code.DecNormalKeyPad ∷ code.DecLineDrawingG0 ∷ code.UkCharacterSetG0 ∷ code.AsciiCharacterSetG0
    ∷ code.DecLineDrawingG1 ∷ code.UkCharacterSetG1 ∷ code.AsciiCharacterSetG1 ∷ code.DecScreenAlignmentDisplay
    ∷ code.DecDoubleHeightTopHalfLine ∷ code.DecDoubleHeightBottomHalfLine ∷ code.DecSingleWidthLine
    ∷ code.DecDoubleWidthLine ∷ []

-- ---- Reading

-- whether a code has these bytes, where an intermediate byte of 0 counts as none
abbrev pub has_bytes : Option ℕ → ℕ → EscCode → Bool
has_bytes intermediate control known =
    unwrap_or (esc_code_bytes known).0 0 == unwrap_or intermediate 0 && (esc_code_bytes known).1 == control

-- the code that has these bytes, if there is one
unfoldable pub known_code : Option ℕ → ℕ → Option EscCode
known_code intermediate control = find (has_bytes intermediate control) esc_codes

-- a code if there is one, else the bytes
abbrev pub esc_reading : Option ℕ → ℕ → Esc
esc_reading intermediate control =
    option_map_or esc.Code (known_code intermediate control) (esc.Unspecified intermediate control)

-- ---- Writing

-- the bytes of a pair after its ESC
abbrev pub bytes_of_pair : Esc → Option ℕ × ℕ
bytes_of_pair (esc.Code known) = esc_code_bytes known
bytes_of_pair (esc.Unspecified intermediate control) = (intermediate, control)

-- ESC, the intermediate if any, the final byte
abbrev pub esc_bytes : Option ℕ → ℕ → List ℕ
esc_bytes None control = 27 ∷ encode_utf8 control
esc_bytes (Some between) control = 27 ∷ (encode_utf8 between ++ encode_utf8 control)

abbrev pub esc_text : Esc → List ℕ
esc_text pair = esc_bytes (bytes_of_pair pair).0 (bytes_of_pair pair).1
