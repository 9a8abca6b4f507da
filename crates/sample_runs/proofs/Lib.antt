mod KernelLemmas
