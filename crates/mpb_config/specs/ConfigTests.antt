-- Whether a plan is that of a board, at a page, computed (this project's own).
--     IsConfigAt page c      the plan is one of a board, and the page is the one that its boot program names, where it names one
--     is_config page c       the same as a test
use Rattle.std.specs.Prelude.{◌≡◌, ◌==◌, ℕ, Bool, true, not, ◌&&◌, List, [], ◌∷◌, length, take, drop, map, nat_le, nat_lt}
use Rattle.std.specs.List.{list_all}
use Rattle.mpb_spec.specs.declared.agent.Op.{Op}
use Rattle.mpb_spec.specs.declared.agent.Op.TheVariants as op
use Rattle.mpb_spec.specs.declared.config.DevWord.{DevWord}
use Rattle.mpb_spec.specs.declared.config.DevWord.TheVariants.{Pulse, High, Low}
use Rattle.mpb_spec.specs.Numbers.{has}
use Rattle.mpb_spec.specs.Plan.{Plan, CpuPlan}
use Rattle.mpb_spec.specs.Configs.{IsConfig, is_boot_op, is_script_op, boot_ops}

-- the plan is one of a board, at the page
abbrev pub IsConfigAt : ℕ → Plan → Type 0
IsConfigAt page c = (is : IsConfig c) × (is.page ≡ page)

-- the word names a pin of the first n I/O APICs
abbrev pub is_word_on : ℕ → DevWord → Bool
is_word_on n (Pulse a pin) = nat_lt a n && nat_lt pin 24
is_word_on n (High a pin) = nat_lt a n && nat_lt pin 24
is_word_on n (Low a pin) = nat_lt a n && nat_lt pin 24

-- the op names one of the first n I/O APICs, where it names one
abbrev pub is_op_on : ℕ → Op → Bool
is_op_on n (op.IoSel a r) = nat_lt a n
is_op_on n (op.IoWin a v) = nat_lt a n
is_op_on n (op.IoRead a) = nat_lt a n
is_op_on n o = true

-- another processor than the boot processor, and not all
abbrev pub is_other : ℕ → ℕ → Bool
is_other boot d = not (d == 255) && not (d == boot)

-- the op's target is one, where it is INIT, STARTUP or a check
abbrev pub is_aimed : ℕ → Op → Bool
is_aimed boot (op.Init d) = is_other boot d
is_aimed boot (op.Startup d page) = is_other boot d
is_aimed boot (op.Check d) = is_other boot d
is_aimed boot o = true

-- the page is the one that the op names, where it names one
abbrev pub is_at_page : ℕ → Op → Bool
is_at_page page (op.Warm p) = p == page
is_at_page page (op.Startup d p) = p == page
is_at_page page o = true

-- a processor of a config
abbrev pub is_cpu_plan : ℕ → ℕ → ℕ → ℕ → CpuPlan → Bool
is_cpu_plan boot boot_len ios page p =
    nat_lt p.id 255
    && (nat_le (boot_ops boot boot_len p) (length p.program)
    && (list_all is_boot_op (take (boot_ops boot boot_len p) p.program)
    && (list_all is_script_op (drop (boot_ops boot boot_len p) p.program)
    && (list_all (is_op_on ios) p.program
    && (list_all (is_aimed boot) p.program
    && list_all (is_at_page page) p.program)))))

-- strictly ascending
abbrev pub is_ascending : List ℕ → Bool
is_ascending [] = true
is_ascending (x ∷ xs) = list_all (λ y. nat_lt x y) xs && is_ascending xs

-- the plan is one of a board, at the page
abbrev pub is_config : ℕ → Plan → Bool
is_config page c =
    nat_lt 0 (length c.cpus)
    && (nat_le (length c.cpus) 8
    && (is_ascending (map (λ p. p.id) c.cpus)
    && (has c.boot (map (λ p. p.id) c.cpus)
    && (nat_lt c.boot 15
    && (nat_le (length c.ios) 4
    && (nat_le (length c.devices) 4
    && (list_all (is_cpu_plan c.boot c.boot_len (length c.ios) page) c.cpus
    && list_all (λ words. list_all (is_word_on (length c.ios)) words) c.devices)))))))
