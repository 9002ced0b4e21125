mod OnlyMemory
