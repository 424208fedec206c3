-- The replies: document 01, "Commands and replies", and change request 5. A reply has the command's frame ID and endpoint 2; unfilled bytes of its
-- body are zero. Its status, 0 or 1 (`status_number`), is the byte after the code and bit 2 of its header; name and version has none.
use Rattle.std.specs.Prelude.{ℕ, Bool, cond, List, [], ◌∷◌, ◌++◌, length, get_or, take, drop}
use Rattle.endian.specs.Lists.{padded, zeros}
use Rattle.framing.specs.Header.{frame_id, in_field, Writing, byte, refused, header_byte}
use Rattle.framing.specs.Answers.{status_number}
use Rattle.framing.specs.declared.Status.{Status}
use Rattle.framing.specs.declared.Status.TheVariants.{Good, Bad}
use Rattle.protocol.specs.Commands.{firmware}
use Rattle.protocol.specs.declared.Reply.{Reply}

-- the byte that a header is written as; the writer refuses none of a reply's
abbrev pub written : Writing → ℕ
written (byte b) = b
written (refused k) = 0

-- the header of the reply to a command with header h, for a body of n bytes and a status
unfoldable pub reply_header : ℕ → ℕ → Status → ℕ
reply_header h n s = written (header_byte (in_field frame_id h) firmware n (status_number s))

-- a reply with a status: a body of n bytes, which are code, status and the first of 126 others
abbrev pub reply_with : ℕ → ℕ → ℕ → Status → List ℕ → Reply
reply_with h n code s others = record { header = reply_header h n s; len = n; body = code ∷ status_number s ∷ others }

-- the bytes of a reply as they are sent
abbrev pub sent : Reply → List ℕ
sent r = r.header ∷ take r.len r.body

-- what is lent, with these bytes at its front: only they are written. A room for a frame, or RAM for a program from flash
unfoldable pub put_in : List ℕ → List ℕ → List ℕ
put_in lent s = s ++ drop (length s) lent

-- a reply's header, code and status by the paper's positions
abbrev pub header_in : List ℕ → ℕ
header_in r = get_or r 0 0

abbrev pub code_in : List ℕ → ℕ
code_in r = get_or r 1 0

abbrev pub status_in : List ℕ → ℕ
status_in r = get_or r 2 0

-- the code of the only reply without a status
abbrev pub name_code : ℕ
name_code = 0x02

-- 0x01, name and version: "tk1 ", "mkdf", version 1 in four bytes; bit 2 is zero
unfoldable pub name_reply : ℕ → Reply
name_reply h =
    record {
      header = reply_header h 32 Good;
      len = 32;
      body = padded 128 (name_code ∷ 0x74 ∷ 0x6b ∷ 0x31 ∷ 0x20 ∷ 0x6d ∷ 0x6b ∷ 0x64 ∷ 0x66 ∷ 1 ∷ 0 ∷ 0 ∷ 0 ∷ []);
    }

-- 0x08, UDI: status 0, the eight bytes
unfoldable pub udi_reply : ℕ → List ℕ → Reply
udi_reply h udi = reply_with h 32 0x09 Good (padded 126 udi)

-- 0x03, load: status 0, or 1 for a load that is not taken
unfoldable pub load_reply : ℕ → Bool → Reply
load_reply h good = reply_with h 4 0x04 (cond good Good Bad) (zeros 126)

-- 0x05, block: status 0
unfoldable pub block_reply : ℕ → Reply
block_reply h = reply_with h 4 0x06 Good (zeros 126)

-- 0x05, the last block: status 0, the 32 bytes of the digest
unfoldable pub digest_reply : ℕ → List ℕ → Reply
digest_reply h digest = reply_with h 128 0x07 Good (padded 126 digest)
