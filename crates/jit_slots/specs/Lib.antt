pub mod JumpParts
